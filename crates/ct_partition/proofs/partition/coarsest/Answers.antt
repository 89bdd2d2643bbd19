use Rattle.ct_partition.specs.Points.{points}
use Rattle.ct_partition.proofs.PointLemmas.{closed}
use Rattle.ct_partition.proofs.StableLemmas.{IsStable-steady, IsCoarsest-partition, AreLeastPoints-steady, agreement, bisimilarity}
use Rattle.ct_partition.proofs.partition.coarsest.Goals as goal

pub returns : goal.returns
returns c =
    let labels = c.args.labels.now in
    let starts = c.args.starts.now in
    let children = c.args.children.now in
    let p = points labels starts children in
    let inside = closed labels starts children c.requires.formed in
    let blocks = c.in_ok-blocks.blocks.items in
    let partition = c.in_ok-blocks.ensures.partition in
    let steady = c.in_ok-blocks.ensures.steady in
    record {
      long = partition.keeps.long;
      stable = IsStable-steady p blocks partition steady;
      coarsest = IsCoarsest-partition p blocks inside partition;
      least = AreLeastPoints-steady p blocks partition steady;
      agreement = agreement p blocks inside partition steady;
      bisimilarity = bisimilarity p blocks inside partition steady;
    }
