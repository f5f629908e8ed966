-- The code's literals have the bits of the rule's numbers: both sides compute to the same float.
-- A decimal is the float nearest to it, and the others are whole or binary fractions.
use mathlib.Core.Path.{◌≡◌, refl}
use lib.Ieee.{binary64, of_bits, round}
use Rattle.steps.specs.Steps.{hundredths, two_to, least_sps}

pub is_0_98 : of_bits binary64 0x3fef_5c28_f5c2_8f5c ≡ hundredths 98
unfolding of_bits round hundredths
is_0_98 = refl

pub is_1_02 : of_bits binary64 0x3ff0_51eb_851e_b852 ≡ hundredths 102
unfolding of_bits round hundredths
is_1_02 = refl

pub is_0_01 : of_bits binary64 0x3f84_7ae1_47ae_147b ≡ hundredths 1
unfolding of_bits round hundredths
is_0_01 = refl

pub is_2_12 : of_bits binary64 0x40b0_0000_0000_0000 ≡ two_to 12
unfolding of_bits
is_2_12 = refl

pub is_2_15 : of_bits binary64 0x40e0_0000_0000_0000 ≡ two_to 15
unfolding of_bits
is_2_15 = refl

pub is_2_24 : of_bits binary64 0x4170_0000_0000_0000 ≡ two_to 24
unfolding of_bits
is_2_24 = refl

pub is_2_32 : of_bits binary64 0x41f0_0000_0000_0000 ≡ two_to 32
unfolding of_bits
is_2_32 = refl

pub is_1_0625 : of_bits binary64 0x3ff1_0000_0000_0000 ≡ least_sps
unfolding of_bits
is_1_0625 = refl

pub ruleset literals = (is_0_98, is_1_02, is_0_01, is_2_12, is_2_15, is_2_24, is_2_32, is_1_0625)
