-- The tags of a field are no longer than the field.
use Rattle.xf_load.proofs.TagFacts.{tags-answer}
use Rattle.xf_load.proofs.cell.read_kind.Goals as goal

pub returns-in-Tags-clause-of_kind : goal.returns-in-Tags-clause-of_kind
returns-in-Tags-clause-of_kind c = rw c.in-Tags.is (tags-answer c.in-Tags.separator c.args.text.now c.read_tags.result c.read_tags.ensures)
