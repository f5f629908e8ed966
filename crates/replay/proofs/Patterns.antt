-- Which bit patterns are a NaN's: those above an infinity's, the sign left out. There is one NaN, so all of them are it.
use Rattle.std.proofs.Common.{◌≡◌, ℕ, ◌*◌, ◌%◌, ◌≤◌, ◌<◌, Bool, true, not, refl, sym, ap, ◌∙◌, subst, lt-ltb, le-ltb}
use Rattle.std.proofs.lemmas.Bool.{false≢true}
use lib.Dec.{T}
use lib.Ieee.{Float, nan, inf, fin, Format, binary32, binary64, ones, hid, top, div, of_bits, to_bits, nan_bits, is_nan}
use lib.Ieee.Bits.{nan_bits_is, nan_bits_above}

only_nan : (x : Float) → is_nan x ≡ true → nan ≡ x
unfolding is_nan
only_nan nan e = refl
only_nan (inf s) e = absurd (false≢true e)
only_nan (fin s m k) e = absurd (false≢true e)

zero_by_zero : (f : Format) → div f (of_bits f 0) (of_bits f 0) ≡ nan
unfolding div of_bits
zero_by_zero binary32 = refl
zero_by_zero binary64 = refl

-- the code makes its NaN by dividing 0 by 0
pub nan_above : (f : Format) (b : ℕ) → ones f * hid f < b % top f → div f (of_bits f 0) (of_bits f 0) ≡ of_bits f b
nan_above f b l = zero_by_zero f ∙ only_nan (of_bits f b) (sym (nan_bits_is f b) ∙ nan_bits_above f b ∙ lt-ltb (ones f * hid f) (b % top f) l)

pub no_nan_below : (f : Format) (b : ℕ) → b % top f ≤ ones f * hid f → T (not (nan_bits f b))
no_nan_below f b l = subst (λ (q : Bool). T (not q)) (sym (nan_bits_above f b ∙ le-ltb (ones f * hid f) (b % top f) l)) tt

-- the pattern of the one NaN
pub nan_bits_of : (x : Float) → is_nan x ≡ true → 0x7ff8_0000_0000_0000 ≡ to_bits binary64 x
unfolding to_bits
nan_bits_of x e = ap (to_bits binary64) (only_nan x e)
