-- No row that was passed has a fault, and what was found of their coefficients outside the detector's places is the definition's answer for them. What is
-- left is the bank from the next row on.
use Rattle.std.proofs.Common.{◌≡◌, ◌≢◌, ◌*◌, ◌≤◌, [], drop}
use Rattle.std.specs.Iterator.Adapters.{enumerate_source, enumerate_count}
use Rattle.std.specs.Slice.Iter.{chunks_exact_rest, chunks_exact_size}
use Rattle.params.specs.declared.Bank.{Bank}
use Rattle.params.specs.Refusal.{bank_number}
use Rattle.params.specs.Banks.{rows_faults, rows_outside}
use Rattle.params.proofs.banks.check_rows.Given as goal

abbrev pub invariant-loop-phase : goal.invariant-loop-phase
invariant-loop-phase l = record {
  next : (goal.iterator-loop-phase).can_next l.phase-iterator;
  finite : (goal.iterator-loop-phase).is_finite l.phase-iterator;
  size : chunks_exact_size (enumerate_source l.phase-iterator) ≡ l.taps;
  count : enumerate_count l.phase-iterator ≤ 64;
  rest : chunks_exact_rest (enumerate_source l.phase-iterator) ≡ drop (enumerate_count l.phase-iterator * l.taps) l.cs;
  none : rows_faults l.taps (bank_number l.bank) l.cs 0 (enumerate_count l.phase-iterator) ≡ [];
  centred : l.bank ≢ Bank.K → l.centred ≡ rows_outside l.taps l.cs 0 (enumerate_count l.phase-iterator);
}
