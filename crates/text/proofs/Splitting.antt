-- How commas part a line, and what one field more adds to its answer and values.
use Rattle.std.proofs.Common.{◌≡◌, refl, sym, ap, ◌∙◌, subst, ℕ, ◌+◌, ◌≤◌, ◌<◌, max, Bool, true, false, cond, eqb, List, [], ◌∷◌, ◌++◌, length, drop, get_or, set, drop-cons, add-one, drop_of_length-le, ℤ, Option, Some, None, Result, Ok, Err, Bor, arith}
use denote.Param.Members.{Mut}
use borrow.Author.Tests.{ne_eqb}
use Rattle.std.specs.Prelude.{MatchBool, All}
use Rattle.std.specs.List.{slice_split, onto_first, IsFirstMatchOrLen}
use Rattle.std.specs.Fn.{ComputesKey}
use Rattle.std.specs.declared.slice.Split.{Split}
use Rattle.std.specs.Slice.Iter.{split_rest, split_done, split_callee, split_steps}
use Rattle.std.proofs.lemmas.List.Edits.{sets}
use Rattle.std.proofs.lemmas.List.Splits.{slice_split_none, slice_split_at}
use Rattle.std.proofs.lemmas.Grind.{common_steps}
use Rattle.kinds.specs.Answer.{answer_number}
use Rattle.kinds.specs.Kinds.{field_number}
use Rattle.kinds.specs.declared.Kind.{Kind}
use Rattle.kinds.specs.declared.Kind.TheVariants.{U8}
use Rattle.kinds.specs.declared.FieldError.{FieldError}
use Rattle.kinds.specs.declared.FieldError.TheVariants.{Malformed, OutOfRange}
use Rattle.text.specs.Fields.{field_of}
use Rattle.text.specs.Lines.{onto, split_fields, fault_of, value_of, worst, number_of, values, Reading}

-- ---- fields

same_parts : (l : List ℕ) → split_fields l ≡ slice_split (λ b. eqb b 44) l
unfolding split_fields
same_parts [] = refl
same_parts (b ∷ t) = go (eqb b 44) (split_fields t) (slice_split (λ c. eqb c 44) t) (same_parts t)
  where
    go : (q : Bool) (fs gs : List (List ℕ)) → fs ≡ gs → cond q ([] ∷ fs) (onto b fs) ≡ cond q ([] ∷ gs) (onto_first b gs)
    go true fs gs e = ap (λ (l : List (List ℕ)). [] ∷ l) e
    go false [] gs e = ap (onto_first b) e
    go false (f ∷ fs) gs e = ap (onto_first b) e

-- The first field, and what is behind its comma, if there is one.
one_field : (s text behind : List ℕ) (done : Bool) → MatchBool done (s ≡ text) ((y : ℕ) × (s ≡ text ++ (y ∷ behind))) → IsFirstMatchOrLen (λ b. eqb b 44) s (length text)
    → split_fields s ≡ text ∷ cond done [] (split_fields behind)
one_field s text behind true e h =
    same_parts s ∙ ap (slice_split (λ b. eqb b 44)) e
    ∙ slice_split_none (λ b. eqb b 44) text (λ k d l. subst (λ (ys : List ℕ). eqb (get_or ys k d) 44 ≡ false) e (h.0 k d (omega arith) l))
one_field s text behind false e h =
    let front : All (λ b. eqb b 44 ≡ false) text = λ k d l. let a = h.0 k d (omega arith) l in let b = e.1 in grind (arith, common_steps) in
    let hit : eqb e.0 44 ≡ true = let b = e.1 in let a = h.1 (grind (arith, common_steps)) e.0 in grind (arith, common_steps) in
    same_parts s ∙ ap (slice_split (λ b. eqb b 44)) e.1 ∙ slice_split_at (λ b. eqb b 44) text e.0 behind front hit
    ∙ ap (λ (fs : List (List ℕ)). text ∷ fs) (sym (same_parts behind))

-- The fields that a walk along a line has left.
abbrev pub fields_left : {F : Type 0} → Split ℕ F → List (List ℕ)
fields_left s = cond (split_done s) [] (split_fields (split_rest s))

module _ {F : Type 0} (g : Mut F (Bor ℕ × Unit {0}) Bool) (s t : Split ℕ F) (r : Option (Bor (List ℕ))) (step : split_steps g s r t) where
  pub next_field : (x : Bor (List ℕ)) → r ≡ Some x → ComputesKey g (λ b. eqb b 44) (split_callee s) → fields_left s ≡ x.now ∷ fields_left t
  next_field x e computes =
      let h = subst (λ (o : Option (Bor (List ℕ))). split_steps g s o t) e step in
      rw h.0 (one_field (split_rest s) x.now (split_rest t) (split_done t) h.1 (h.2 (λ b. eqb b 44) computes).1)

  pub no_field : r ≡ None → fields_left s ≡ []
  no_field e =
      let h = subst (λ (o : Option (Bor (List ℕ))). split_steps g s o t) e step in
      rw h.0 refl

-- ---- faults

pub fault-le : {A : Type 0} (r : Result A FieldError) → fault_of r ≤ 2
fault-le (Ok v) = omega arith
fault-le (Err Malformed) = omega arith
fault-le (Err OutOfRange) = omega arith

pub number_is : {A : Type 0} (r : Result A FieldError) → answer_number field_number r ≡ number_of (fault_of r)
number_is (Ok v) = refl
number_is (Err Malformed) = refl
number_is (Err OutOfRange) = refl

pub worst-le : (ks : List Kind) (fs : List (List ℕ)) → worst ks fs ≤ 2
unfolding worst
worst-le [] [] = omega arith
worst-le [] (f ∷ fs) = omega arith
worst-le (k ∷ ks) [] = omega arith
worst-le (k ∷ ks) (f ∷ fs) = omega (arith, fault-le (field_of k f), worst-le ks fs)

-- ---- what is left of a line, after n fields: `fs`, with the worst fault so far and the places as they are

pub record Left (ks : List Kind) (s : List ℕ) (out₀ out : List ℤ) (n fault : ℕ) (fs : List (List ℕ)) : Type 0 where
  pub faults : worst ks (split_fields s) ≡ max fault (worst (drop n ks) fs)
  pub places : sets out₀ 0 (values ks (split_fields s)) ≡ sets out n (values (drop n ks) fs)

module _ (ks : List Kind) (s : List ℕ) (out₀ out : List ℤ) (n fault : ℕ) where
  module _ (h : n < length ks) where
    -- the next type, and the types behind it
    next : drop n ks ≡ get_or ks n U8 ∷ drop (n + 1) ks
    next = rw (add-one, drop-cons ks n U8 h) refl

    module _ (f : List ℕ) (fs : List (List ℕ)) (l : Left ks s out₀ out n fault (f ∷ fs)) where
      pub left_step : (fault_of (field_of (get_or ks n U8) f) ≡ 2 → ⊥)
          → Left ks s out₀ (set out n (value_of (field_of (get_or ks n U8) f))) (n + 1) (max fault (fault_of (field_of (get_or ks n U8) f))) fs
      unfolding worst values
      left_step w = record {
        faults = l.faults ∙ rw next (omega arith);
        places = l.places ∙ rw (next, ne_eqb (fault_of (field_of (get_or ks n U8) f)) 2 w, add-one) refl;
      }

      pub left_wrong : fault ≤ 2 → fault_of (field_of (get_or ks n U8) f) ≡ 2 → Reading ks s out₀ 18 out
      unfolding worst values
      left_wrong b w =
          let two : worst ks (split_fields s) ≡ 2 = l.faults ∙ rw next (omega (arith, worst-le (drop (n + 1) ks) fs)) in
          record { number = sym (ap number_of two); places = sym (l.places ∙ rw (next, w) refl) }

    pub left_short : fault ≤ 2 → Left ks s out₀ out n fault [] → Reading ks s out₀ 18 out
    unfolding worst values
    left_short b l =
        let two : worst ks (split_fields s) ≡ 2 = l.faults ∙ rw next (omega arith) in
        record { number = sym (ap number_of two); places = sym (l.places ∙ rw next refl) }

  module _ (h : length ks ≤ n) where
    none : drop n ks ≡ []
    none = drop_of_length-le ks h

    pub left_whole : Left ks s out₀ out n fault [] → Reading ks s out₀ (number_of fault) out
    unfolding worst values
    left_whole l =
        let same : worst ks (split_fields s) ≡ fault = l.faults ∙ rw none (omega arith) in
        record { number = sym (ap number_of same); places = sym (l.places ∙ rw none refl) }

    pub left_long : fault ≤ 2 → (f : List ℕ) (fs : List (List ℕ)) → Left ks s out₀ out n fault (f ∷ fs) → Reading ks s out₀ 18 out
    unfolding worst values
    left_long b f fs l =
        let two : worst ks (split_fields s) ≡ 2 = l.faults ∙ rw none (omega arith) in
        record { number = sym (ap number_of two); places = sym (l.places ∙ rw none refl) }
