-- Each clause is a lemma on selected rows.
use Rattle.xf_model.proofs.SelectedRows.{selected-unfiltered, selected-insert, selected-one_more, selected-filter, selected-insert_all}
use Rattle.xf_model.proofs.laws.selected_rows.Goals as goal

pub returns-clause-unfiltered : goal.returns-clause-unfiltered
returns-clause-unfiltered g c = λ dimensions but rows none. selected-unfiltered dimensions but rows none

pub returns-clause-own_unseen : goal.returns-clause-own_unseen
returns-clause-own_unseen g c = λ dimensions own dimension rows within. selected-insert dimensions own dimension rows within

pub returns-clause-one_more : goal.returns-clause-one_more
returns-clause-one_more g c = λ dimensions own dimension rows within. selected-one_more dimensions own dimension rows within

pub returns-clause-kept : goal.returns-clause-kept
returns-clause-kept g c = λ dimensions but keep rows. selected-filter dimensions but keep rows

pub returns-clause-disposed : goal.returns-clause-disposed
returns-clause-disposed g c = λ dimensions own dimension rows within is_all. selected-insert_all dimensions own dimension rows within is_all
