use Rattle.chart.proofs.Sorts.{sound_sorted, whole_sorted, ordered_sorted}
use Rattle.chart.proofs.index.IndexedTables.of.Goals as goal

pub invariant_of-result : goal.invariant_of-result
invariant_of-result c =
    let arcs = c.args.fit.tables.arcs.now in
    let us = c.in_ok-entries.entries.items in
    let es = c.sort_unstable.new.self.items in
    let l = c.in_ok-entries.ensures in
    let s = c.sort_unstable.ensures.permutation in
    record {
      indexed = record {
        sound = sound_sorted arcs us es l s;
        whole = whole_sorted arcs us es l s;
        ordered = ordered_sorted arcs us es l s c.sort_unstable.ensures.sorted;
      };
    }
