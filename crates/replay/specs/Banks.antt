-- Banks, each in a room of its own.
use Rattle.std.specs.Prelude.{min, List, [], length, map, take, replicate, slice_index, slice_index_or, slice_set, ℤ, pos}
use Rattle.std.proofs.lemmas.List.Edits.{sets}
use Rattle.arith.specs.Arith.{narrow_i32}
use Rattle.params.specs.declared.Bank.{Bank}
use Rattle.params.specs.Refusal.{bank_number}
use Rattle.replay.specs.declared.banks.Banks.{Banks}

abbrev pub no_banks : Banks
no_banks = record { lengths = replicate 3 0; rooms = replicate 3 (replicate 8192 (pos 0)) }

-- The banks with these coefficients of one of them: as many as its room has places for.
abbrev pub kept : Banks → Bank → List ℤ → Banks
kept banks bank coefficients =
    let room : List ℤ = slice_index_or banks.rooms (bank_number bank) [] in
    record {
      lengths = slice_set banks.lengths (bank_number bank) (min (length coefficients) (length room));
      rooms = slice_set banks.rooms (bank_number bank) (sets room 0 (map narrow_i32 coefficients));
    }

-- A bank's coefficients.
abbrev pub bank_of : Banks → Bank → List ℤ
bank_of banks bank = take (slice_index banks.lengths (bank_number bank)) (slice_index_or banks.rooms (bank_number bank) [])
