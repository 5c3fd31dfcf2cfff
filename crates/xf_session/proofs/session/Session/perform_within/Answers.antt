use Rattle.std.proofs.Common.{◌∙◌, sym}
use Rattle.xf_session.proofs.Performed.{asked_records, asked_tops, asked_value, done_asked, done_change, width_of_group}
use Rattle.xf_session.proofs.session.Session.perform_within.Goals as goal

pub returns-in-Filter : goal.returns-in-Filter
returns-in-Filter g c =
    done_change c.args.form c.args.self.now c.filter-in-Filter.new.self c.filter-in-Filter.result c.done-in-Filter.result
    (rw c.in-Filter.is tt) (λ file is. cc (sym c.in-Filter.is ∙ is)) c.done-in-Filter.ensures (rw c.in-Filter.is c.filter-in-Filter.ensures)

pub returns-in-Toggle : goal.returns-in-Toggle
returns-in-Toggle g c =
    done_change c.args.form c.args.self.now c.toggle.new.self c.toggle.result c.done-in-Toggle.result
    (rw c.in-Toggle.is tt) (λ file is. cc (sym c.in-Toggle.is ∙ is)) c.done-in-Toggle.ensures (rw c.in-Toggle.is c.toggle.ensures)

pub returns-in-Clear : goal.returns-in-Clear
returns-in-Clear g c =
    done_change c.args.form c.args.self.now c.clear.new.self c.clear.result c.done-in-Clear.result
    (rw c.in-Clear.is tt) (λ file is. cc (sym c.in-Clear.is ∙ is)) c.done-in-Clear.ensures (rw c.in-Clear.is c.clear.ensures)

pub returns-in-RemoveWhere : goal.returns-in-RemoveWhere
returns-in-RemoveWhere g c =
    done_change c.args.form c.args.self.now c.remove_where.new.self c.remove_where.result c.done-in-RemoveWhere.result
    (rw c.in-RemoveWhere.is tt) (λ file is. cc (sym c.in-RemoveWhere.is ∙ is)) c.done-in-RemoveWhere.ensures (rw c.in-RemoveWhere.is c.remove_where.ensures)

pub returns-in-Dimension : goal.returns-in-Dimension
returns-in-Dimension g c =
    done_change c.args.form c.args.self.now c.add_dimension.new.self c.add_dimension.result c.done-in-Dimension.result
    (rw c.in-Dimension.is tt) (λ file is. cc (sym c.in-Dimension.is ∙ is)) c.done-in-Dimension.ensures (rw c.in-Dimension.is c.add_dimension.ensures)

pub add_group-requires : goal.add_group-requires
add_group-requires g c = width_of_group c.args.form c.in-Group.name c.in-Group.dimension c.in-Group.rounding c.in-Group.reducer c.in-Group.is c.requires

pub returns-in-Group : goal.returns-in-Group
returns-in-Group g c =
    done_change c.args.form c.args.self.now c.add_group.new.self c.add_group.result c.done-in-Group.result
    (rw c.in-Group.is tt) (λ file is. cc (sym c.in-Group.is ∙ is)) c.done-in-Group.ensures (rw c.in-Group.is c.add_group.ensures)

pub returns-in-Whole : goal.returns-in-Whole
returns-in-Whole g c =
    done_change c.args.form c.args.self.now c.add_whole.new.self c.add_whole.result c.done-in-Whole.result
    (rw c.in-Whole.is tt) (λ file is. cc (sym c.in-Whole.is ∙ is)) c.done-in-Whole.ensures (rw c.in-Whole.is c.add_whole.ensures)

pub returns-in-DisposeDimension : goal.returns-in-DisposeDimension
returns-in-DisposeDimension g c =
    done_change c.args.form c.args.self.now c.dispose_dimension.new.self c.dispose_dimension.result c.done-in-DisposeDimension.result
    (rw c.in-DisposeDimension.is tt) (λ file is. cc (sym c.in-DisposeDimension.is ∙ is)) c.done-in-DisposeDimension.ensures (rw c.in-DisposeDimension.is c.dispose_dimension.ensures)

pub returns-in-GroupTop : goal.returns-in-GroupTop
returns-in-GroupTop g c =
    done_asked c.args.form c.args.self.now c.group_top.result c.done-in-GroupTop.result
    (rw c.in-GroupTop.is (asked_tops c.args.self.now c.in-GroupTop.group c.in-GroupTop.count)) (λ file is. cc (sym c.in-GroupTop.is ∙ is)) c.done-in-GroupTop.ensures (rw c.in-GroupTop.is c.group_top.ensures.answer) c.group_top.ensures.utf8

pub returns-in-Value : goal.returns-in-Value
returns-in-Value g c =
    done_asked c.args.form c.args.self.now c.value.result c.done-in-Value.result
    (rw c.in-Value.is (asked_value c.args.self.now c.in-Value.group c.in-Value.key)) (λ file is. cc (sym c.in-Value.is ∙ is)) c.done-in-Value.ensures (rw c.in-Value.is c.value.ensures.answer) c.value.ensures.utf8

pub returns-in-Records : goal.returns-in-Records
returns-in-Records g c =
    done_asked c.args.form c.args.self.now c.records.result c.done-in-Records.result
    (rw c.in-Records.is (asked_records c.args.self.now c.in-Records.dimensions)) (λ file is. cc (sym c.in-Records.is ∙ is)) c.done-in-Records.ensures (rw c.in-Records.is c.records.ensures.answer) c.records.ensures.utf8
