-- The names so far are in the set, and the places are those of them that are taken.
use Rattle.std.proofs.Common.{◌≡◌, map, filter, take, nat_eq, Bor, List, ℕ}
use Rattle.std.specs.Cmp.Lexicographic.{pointwise}
use Rattle.std.specs.HashSet.{contains}
use Rattle.std.specs.List.{enumerate_from, list_any}
use Rattle.std.specs.Str.{bytes_eq}
use Rattle.csv.specs.Records.{fields_of}
use Rattle.xf_sheet.specs.Sheet.{is_named}
use Rattle.xf_sheet.proofs.sheet.named_places.Given as goal

abbrev pub invariant-loop-place : goal.invariant-loop-place
invariant-loop-place l = record {
  places : l.places.items ≡ map (λ column. column.0) (filter (is_named (fields_of l.header)) (take l.place (enumerate_from 0 (fields_of l.header))));
  names : (name : Bor (List ℕ)) → contains (λ x y. pointwise nat_eq x.now y.now) l.names name ≡ list_any (bytes_eq name.now) (take l.place (fields_of l.header));
}
