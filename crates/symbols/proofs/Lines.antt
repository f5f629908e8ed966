-- A line that has ended among some bytes has its line feed among them too.
use Rattle.std.proofs.Common.{◌≡◌, refl, ℕ, ◌<◌, Bool, true, false, cond, ltb, leb, List, length, Ok, Err, Result, arith}
use borrow.Author.Tests.{ltb-true}
use Rattle.text.specs.declared.LineEnd.TheVariants.{After, TooLong, Open}
use Rattle.text.specs.Lines.{before, line_end_of}
use Rattle.recording.specs.declared.InputError.{InputError}
use Rattle.recording.specs.declared.InputError.TheVariants.{Malformed, Missing}
use Rattle.recording.specs.declared.Next.{Next}
use Rattle.recording.specs.declared.Next.TheVariants.{Line, End}
use Rattle.recording.specs.Lines.{next_at, next_at_end, next_of}

at_end : (unread line n : ℕ) → next_at_end unread line ≡ Ok (Line n) → n < unread
unfolding next_at_end
at_end unread line n e = go (ltb 0 unread) (leb line 193) e
  where
    go : (p q : Bool) → ◌≡◌ {A = Result Next InputError} (cond p (Err Malformed) (cond q (Err Missing) (Ok End))) (Ok (Line n)) → n < unread
    go true q e = cc
    go false true e = cc
    go false false e = cc

pub line_inside : (bytes : List ℕ) (over : Bool) (line n : ℕ) → next_of bytes over line ≡ Ok (Line n) → n < length bytes
unfolding next_of line_end_of
line_inside bytes over line n e = go (ltb 1024 k) (ltb k (length bytes)) refl over e
  where
    k : ℕ
    k = length (before 10 bytes)

    go : (p q : Bool) → ltb k (length bytes) ≡ q → (r : Bool)
        → next_at (cond p TooLong (cond q (After k) Open)) (length bytes) r line ≡ Ok (Line n) → n < length bytes
    go true q f r e = cc
    go false true f r e = let same : k ≡ n = cc in omega (arith, same, ltb-true k (length bytes) f)
    go false false f true e = at_end (length bytes) line n e
    go false false f false e = cc
