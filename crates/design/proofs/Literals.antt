-- The code's literals have the bits of the rule's numbers: both sides compute to the same float.
-- The fewest samples in a symbol are the steps' own.
use mathlib.Core.Path.{◌≡◌, refl}
use lib.IntN.{negsuc}
use lib.Ieee.{fin, binary64, of_bits, neg}
use mathlib.Core.Bool.{true, false}
use Rattle.steps.specs.Steps.{two_to}
use Rattle.steps.proofs.Literals.{is_1_0625}

pub is_4 : of_bits binary64 0x4010_0000_0000_0000 ≡ two_to 2
unfolding of_bits
is_4 = refl

pub is_half : of_bits binary64 0x3fe0_0000_0000_0000 ≡ fin false 1 (negsuc 0)
unfolding of_bits
is_half = refl

pub is_minus_half : neg (of_bits binary64 0x3fe0_0000_0000_0000) ≡ fin true 1 (negsuc 0)
unfolding of_bits neg
is_minus_half = refl

pub ruleset literals = (is_1_0625, is_4, is_minus_half, is_half)
