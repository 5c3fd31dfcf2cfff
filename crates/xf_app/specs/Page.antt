-- The data view of a session: its counts, each whole, and each group.
use Rattle.std.specs.Prelude.{ℕ, List, ◌∷◌, [], ◌++◌, codes, decimal, flat_map, length, Option, Some, None}
use Rattle.xf_access.specs.Stock.{keys_of_row}
use Rattle.xf_base.specs.Word.{word_text}
use Rattle.xf_base.specs.declared.form.KeyForm.{KeyForm}
use Rattle.xf_engine.specs.Answers.{passing_count}
use Rattle.xf_engine.specs.declared.ids.GroupId.{GroupId}
use Rattle.xf_engine.specs.declared.ids.WholeId.{WholeId}
use Rattle.xf_filter.specs.Stock.{stock_says}
use Rattle.xf_reply.specs.Answer.{field_words}
use Rattle.xf_session.specs.Command.{group_entries, group_form, whole_fields}
use Rattle.xf_session.specs.Outcome.{KeyFields, entry_lines}
use Rattle.xf_session.specs.State.{Name, Session}

-- how many records there are, and how many pass
abbrev pub counts_line : ℕ → ℕ → List ℕ
counts_line size passing = codes "records " ++ decimal size ++ codes " passing " ++ decimal passing ++ 10 ∷ []

-- a whole under its name, with its fields
abbrev pub whole_line : Session → Name × WholeId → List ℕ
whole_line s whole = codes "whole " ++ word_text whole.0 ++ field_words (whole_fields s whole.1.0) ++ 10 ∷ []

-- a group under its name and the number of its keys, with its entries
abbrev pub group_lines : Name → KeyForm → List KeyFields → List ℕ
group_lines name form entries =
    codes "group " ++ word_text name ++ 32 ∷ decimal (length entries) ++ 10 ∷ entry_lines form entries

abbrev pub lines_of_group : Session → Name × GroupId → List ℕ
lines_of_group s group = group_lines group.0 (group_form s group.1.0) (group_entries s group.1.0)

-- the lines of what stands at a place, if something does
abbrev pub lines_at : {X : Type 0} → (X → List ℕ) → Option X → List ℕ
lines_at lines_of None = []
lines_at lines_of (Some x) = lines_of x

abbrev pub data_view : Session → List ℕ
data_view s =
    counts_line (length s.cross.rows) (passing_count keys_of_row stock_says s.cross)
    ++ flat_map (whole_line s) s.wholes
    ++ flat_map (lines_of_group s) s.groups
