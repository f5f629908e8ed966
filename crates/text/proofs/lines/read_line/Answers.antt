-- A field more takes the first of the fields that are left (Splitting); one of wrong form decides at once, and so does a line with another number of fields.
use Rattle.std.proofs.Common.{◌≡◌, ◌∙◌, sym, ap, max, ◌≤◌, get_or, set, arith, rules, ℤ, Result, Ok, Err, None, to_z, of_z, w64}
use Rattle.std.proofs.Math.Seq.{set_out}
use Rattle.std.proofs.lemmas.List.Sorted.{answers_always}
use Rattle.kinds.specs.declared.Kind.TheVariants.{U8}
use Rattle.kinds.specs.declared.FieldError.{FieldError}
use Rattle.kinds.specs.declared.FieldError.TheVariants.{OutOfRange}
use Rattle.text.specs.Fields.{field_of}
use Rattle.text.specs.Lines.{fault_of, value_of}
use Rattle.text.proofs.Splitting.{next_field, no_field, number_is, fault-le, left_step, left_wrong, left_short, left_whole, left_long}
use Rattle.text.proofs.lines.read_line.Goals.{in-Err-OutOfRange, in-Ok, then-n-out, else-n-out}
use Rattle.text.proofs.lines.read_line.Goals as goal

pub returns-in_err-text : goal.returns-in_err-text
returns-in_err-text c =
    let l = c.loop-n in
    let none : c.next.result ≡ None = grind arith in
    let short = left_short c.args.kinds.now c.args.line.now c.args.out.now l.out l.n (fault_of l.read) c.loop-n-test.true (fault-le l.read)
    (rw (no_field _ l.fields c.next.new.self c.next.result c.next.ensures.steps none) at l.invariant.left) in
    grind (arith, short)

pub returns-in-Err-Malformed : goal.returns-in-Err-Malformed
returns-in-Err-Malformed c =
    let l = c.loop-n in
    let left =
    rw (next_field _ l.fields c.next.new.self c.next.result c.next.ensures.steps c.in_ok-text.text c.in_ok-text.ensures.ok_part (answers_always _ _ _ (λ f a r g h. search rules))) at l.invariant.left in
    left_wrong c.args.kinds.now c.args.line.now c.args.out.now l.out l.n (fault_of l.read) c.loop-n-test.true c.in_ok-text.text.now _ left (fault-le l.read)
    (ap fault_of (sym c.field.ensures ∙ c.in-Err-Malformed.is ∙ ap Err c.in-Err-Malformed.field-0-is))

pub loop-n-preserved : goal.loop-n-preserved
loop-n-preserved c =
    let l = c.loop-n in
    let F : Result ℤ FieldError = field_of (get_or c.args.kinds.now l.n U8) c.in_ok-text.text.now in
    let left =
    rw (next_field _ l.fields c.next.new.self c.next.result c.next.ensures.steps c.in_ok-text.text c.in_ok-text.ensures.ok_part (answers_always _ _ _ (λ f a r g h. search rules))) at l.invariant.left in
    let placed : c.if-n-out.out ≡ set l.out l.n c.match-field.value = elim c.if-n-out.branch [
      | then-n-out w ↦ w.out-is ∙ ap (λ (z : ℤ). set l.out l.n z) c.match-field.value-is
      | else-n-out w ↦ w.out-is ∙ sym (set_out l.out l.n c.match-field.value w.if-n-out.false)
    ] in
    let read : (c.match-field.value ≡ value_of F) × (fault_of c.match-field.read ≡ max (fault_of l.read) (fault_of F)) × (fault_of F ≤ 1) = elim c.match-field.branch [
      | in-Err-OutOfRange w ↦
          let is : F ≡ Err OutOfRange = sym c.field.ensures ∙ w.in-Err-OutOfRange.is ∙ ap Err w.in-Err-OutOfRange.field-0-is in
          let fault : fault_of F ≡ 1 = ap fault_of is in
          let so_far : fault_of c.match-field.read ≡ 1 = ap fault_of w.read-is in
          (sym c.match-field.value-is ∙ w.value-is ∙ sym (ap value_of is), omega (arith, l.invariant.no_wrong_form), omega arith)
      | in-Ok w ↦
          let is : F ≡ Ok w.in-Ok.value = sym c.field.ensures ∙ w.in-Ok.is in
          let fault : fault_of F ≡ 0 = ap fault_of is in
          let so_far : fault_of c.match-field.read ≡ fault_of l.read = ap fault_of w.read-is in
          let same : to_z w64 (of_z w64 w.in-Ok.value) ≡ w.in-Ok.value = search rules in
          (sym c.match-field.value-is ∙ w.value-is ∙ same ∙ sym (ap value_of is), omega arith, omega arith)
    ] in
    record {
      same_length = search rules;
      no_wrong_form = omega (arith, read.1, read.2, l.invariant.no_wrong_form);
      left = rw (placed, read.0, read.1) (left_step c.args.kinds.now c.args.line.now c.args.out.now l.out l.n (fault_of l.read) c.loop-n-test.true c.in_ok-text.text.now _ left (λ (e : fault_of F ≡ 2). omega (arith, read.2)));
    }

pub returns-in-None : goal.returns-in-None
returns-in-None c =
    let l = c.loop-n in
    rw (number_is l.read) (left_whole c.args.kinds.now c.args.line.now c.args.out.now l.out l.n (fault_of l.read) c.loop-n-test.false
    (rw (no_field _ l.fields c.next-2.new.self c.next-2.result c.next-2.ensures.steps c.in-None.is) at l.invariant.left))

pub returns-in-Some : goal.returns-in-Some
returns-in-Some c =
    let l = c.loop-n in
    let left =
    rw (next_field _ l.fields c.next-2.new.self c.next-2.result c.next-2.ensures.steps c.in-Some.field-0 c.in-Some.is (answers_always _ _ _ (λ f a r g h. search rules))) at l.invariant.left in
    left_long c.args.kinds.now c.args.line.now c.args.out.now l.out l.n (fault_of l.read) c.loop-n-test.false (fault-le l.read) c.in-Some.field-0.now _ left
