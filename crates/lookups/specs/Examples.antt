-- Many lookups, computed: two entries, `a` a file and `b` a folder, and the names `a`, `b` and `ab` in lent bytes. Assumes nothing.
use Rattle.std.specs.Prelude.{ℕ, ◌≡◌, refl, List, [], ◌∷◌, ◌++◌, map, length, replicate}
use Rattle.ground.specs.Basics.{ascii}
use Rattle.ground.specs.Verdict.{verdict, counted, refused, id_length, size_gate, gate_of, stored}
use Rattle.ground.specs.declared.Answer.{Answer}
use Rattle.output.specs.Output.{gated}
use Rattle.mode.specs.Mode.{value_of, sort_of, is_tree}
use Rattle.order.specs.Order.{by_number, next, name_order}
use Rattle.entry.specs.Record.{records_of, well_formed, name_of, folder_of}
use Rattle.lookup.specs.Halving.{mid, halving, search_from}
use Rattle.lookup.specs.Lookup.{compare_entry, lookup_in}
use Rattle.lookups.specs.Many.{sought_of, well_sought, one_answer, first_bad, all_kept, first_gate, many_answer, answers_after}

-- records and names sought, the answers before; the answer, and the answers after
pub record Example : Type 0 where
  pub records : List ℕ
  pub sought : List ℕ
  pub room : List ℕ
  pub answer : Answer
  pub after : List ℕ

abbrev object : List ℕ
object = ascii "100644 a" ++ 0 ∷ (replicate 20 0x11 ++ (ascii "40000 b" ++ 0 ∷ replicate 20 0x22))

abbrev names : List ℕ
names = ascii "ab"

abbrev both : List ℕ
both = 0o100644 ∷ 7 ∷ 8 ∷ 9 ∷ 0 ∷ 0o40000 ∷ 35 ∷ 36 ∷ 37 ∷ 29 ∷ []

abbrev broken : List ℕ
broken = 65536 ∷ 7 ∷ 8 ∷ 9 ∷ 0 ∷ 0o40000 ∷ 35 ∷ 36 ∷ 37 ∷ 29 ∷ []

unfoldable pub examples : List Example
examples =
    -- `b` the folder, `a` the file, and `ab`, which is not there and stops nothing; past the third answer all stays
    record {
      records = both;
      sought = 1 ∷ 2 ∷ 1 ∷ 0 ∷ 1 ∷ 0 ∷ 0 ∷ 2 ∷ 0 ∷ [];
      room = replicate 11 9;
      answer = counted 3;
      after = 0 ∷ 1 ∷ 1 ∷ 0 ∷ 0 ∷ 2 ∷ 15 ∷ 0 ∷ 2 ∷ 9 ∷ 9 ∷ [];
    }
    -- no name
    ∷ record { records = both; sought = 1 ∷ 2 ∷ []; room = []; answer = counted 0; after = [] }
    -- room for one answer only: 4 with the number of names, before any name is looked at
    ∷ record { records = broken; sought = 1 ∷ 0 ∷ 7 ∷ 0 ∷ 9 ∷ 0 ∷ []; room = replicate 5 9; answer = refused (verdict 4 2); after = replicate 5 9 }
    -- a record that is not well formed: the first name does not meet it, the second does
    ∷ record { records = broken; sought = 1 ∷ 2 ∷ 1 ∷ 0 ∷ 1 ∷ 0 ∷ []; room = replicate 6 9; answer = refused (verdict 10 1); after = replicate 6 9 }
    -- a range that ends before it starts, one that ends outside, a mark over 1
    ∷ record { records = both; sought = 0 ∷ 1 ∷ 0 ∷ 2 ∷ 1 ∷ 0 ∷ []; room = replicate 6 9; answer = refused (verdict 10 1); after = replicate 6 9 }
    ∷ record { records = both; sought = 0 ∷ 3 ∷ 0 ∷ []; room = replicate 3 9; answer = refused (verdict 10 0); after = replicate 3 9 }
    ∷ record { records = both; sought = 0 ∷ 1 ∷ 2 ∷ []; room = replicate 3 9; answer = refused (verdict 10 0); after = replicate 3 9 }
    ∷ []

pub answers_hold : map (λ (e : Example). many_answer 20 object e.records names e.sought (length e.room)) examples ≡ map (λ (e : Example). e.answer) examples
unfolding examples id_length size_gate gate_of gated value_of sort_of is_tree name_order by_number next records_of well_formed name_of folder_of mid halving search_from compare_entry lookup_in sought_of well_sought one_answer first_bad first_gate many_answer
answers_hold = refl

pub stores_hold : map (λ (e : Example). answers_after 20 object e.records names e.sought e.room) examples ≡ map (λ (e : Example). e.after) examples
unfolding examples id_length size_gate gate_of gated stored value_of sort_of is_tree name_order by_number next records_of well_formed name_of folder_of mid halving search_from compare_entry lookup_in sought_of well_sought one_answer first_bad all_kept first_gate many_answer
stores_hold = refl
