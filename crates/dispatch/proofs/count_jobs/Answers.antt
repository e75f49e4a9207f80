-- `dispatch::count_jobs` sums up the jobs over the tasks. Each count is a word, so that it is its own rest by 2 ^ 32: that bounds the sum.
use Rattle.std.proofs.Common.{ℕ, ◌-◌, ◌%◌, ◌^◌, refl, ap, ◌∙◌, arith, rules, tests}
use Rattle.std.specs.declared.ops.Range.{Range}
use Rattle.std.proofs.lemmas.Iterator.{YieldsList-from_range, YieldsList-from_map}
use Rattle.std.proofs.lemmas.Iterator.Consumers.{sum_by_from_yields_List}
use Rattle.std.proofs.lemmas.Iterator.Adapters.{fits_from_length, at_most_from_yields_List}
use Rattle.std.proofs.lemmas.List.FromFn.{length-range_with_len}
use Rattle.rules.specs.Table.{task_count}
use Rattle.dispatch.proofs.Counting.{jobs_of, counted, sum_small}
use Rattle.dispatch.proofs.count_jobs.Goals as goal

pub sum-requires-clause-fits : goal.sum-requires-clause-fits
sum-requires-clause-fits c =
    let i = c.map.result.iter.start in
    let n = c.map.result.iter.end - i in
    fits_from_length _ _ 64 _ (at_most_from_yields_List (YieldsList-from_range i c.map.result.iter.end n refl refl) (omega (arith, length-range_with_len i n, ap (λ (r : Range ℕ). r.end) c.map.ensures.source, c.args.tasks.valid.most_tasks)))
    c.map.ensures.closure (omega arith) (λ x r q k. search (rules, tests))

pub returns : goal.returns
returns c =
    let w = c.args.tasks.words.now in
    let m = task_count w in
    let part = jobs_of c.args.plan w in
    let rest = λ (k : ℕ). part k % 2 ^ 32 in
    let sum =
    sum_by_from_yields_List part _ c.map.result c.sum.result c.sum.ensures.ran
    (YieldsList-from_map _ part (YieldsList-from_range 0 m m (cc) (omega arith)) c.map.ensures.closure (λ x r q k. search (rules, tests)))
    ∙ counted c.args.plan w m c.args.tasks.valid
    in
    let few =
    sum_by_from_yields_List rest _ c.map.result c.sum.result c.sum.ensures.ran
    (YieldsList-from_map _ rest (YieldsList-from_range 0 m m (cc) (omega arith)) c.map.ensures.closure (λ x r q k. search (rules, tests)))
    in
    (sum, omega (arith, few, sum_small rest (λ i. omega arith) m 0, c.args.tasks.valid.most_tasks))
