-- How a refusal is written.
use Rattle.std.specs.Prelude.{ℕ, List, ◌∷◌, ◌++◌, codes, decimal}
use Rattle.xf_base.specs.Word.{word_text}
use Rattle.xf_members.specs.declared.board_refusal.BoardRefusal.{BoardRefusal}
use Rattle.xf_members.specs.declared.board_refusal.BoardRefusal.TheVariants as refusal

abbrev pub refusal_words : BoardRefusal → List ℕ
refusal_words refusal.Syntax = codes "syntax"
refusal_words (refusal.Version found) = codes "version " ++ decimal found
refusal_words (refusal.Unknown path) = codes "unknown " ++ word_text path
refusal_words (refusal.Field path) = codes "field " ++ word_text path
refusal_words (refusal.Name path name) = codes "name " ++ word_text path ++ 32 ∷ word_text name
refusal_words (refusal.Limit path limit) = codes "limit " ++ word_text path ++ 32 ∷ decimal limit
refusal_words refusal.OutOfMemory = codes "out of memory"
