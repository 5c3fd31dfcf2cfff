-- Each clause is a lemma on folds whose steps swap.
use Rattle.xf_model.proofs.FoldedRows.{fold_of-IsPermutation, undo-fold_of}
use Rattle.xf_model.proofs.laws.folded_rows.Goals as goal

pub returns-clause-order_free : goal.returns-clause-order_free
returns-clause-order_free g c = λ suits most reducer xs ys swaps few suit moved. fold_of-IsPermutation suits most reducer swaps xs ys few suit moved

pub returns-clause-undone : goal.returns-clause-undone
returns-clause-undone g c = λ suits most reducer undo before row after swaps takes_back few suit. undo-fold_of suits most reducer swaps undo takes_back before row after few suit
