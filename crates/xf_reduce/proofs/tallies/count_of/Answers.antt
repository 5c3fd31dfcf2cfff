-- What is found of a number that is entered is its count.
use Rattle.std.proofs.Common.{ℤ, int_cmp, is_eq, to_z-of_z, ap, ◌∙◌, unwrap_or}
use Rattle.std.specs.Map.{lookup}
use Rattle.xf_reduce.proofs.CountedTallies.{found_count}
use Rattle.xf_reduce.proofs.tallies.count_of.Goals as goal

pub returns : goal.returns
returns c =
    let found = λ (number : ℤ). lookup (λ own. is_eq (int_cmp number own)) c.args.counts.now.entries in
    let same = to_z-of_z c.ranges.number in
    found_count (found c.args.number) c.unwrap_or.result c.requires
    (c.unwrap_or.ensures ∙ ap (λ seen. unwrap_or seen 0) (c.copied.ensures ∙ c.get.ensures.value ∙ ap found same))
