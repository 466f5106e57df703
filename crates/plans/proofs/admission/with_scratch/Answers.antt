use native.Mathlib.Omega.{arith}
use Rattle.plans.proofs.Scratch.{plannable, first-low, countable, scratch-short, scratch_enough}
use Rattle.plans.proofs.admission.with_scratch.Goals as goal

pub schedule_of-requires : goal.schedule_of-requires
schedule_of-requires c = let q = c.requires in (plannable _ _ q.0.ts q.0.tabled q.0.follows, q.1)

pub offset_bounds-catalog-first : goal.offset_bounds-catalog-first
offset_bounds-catalog-first c = let q = c.requires.0 in omega (arith, first-low _ _ q.ts q.tabled q.follows _ c.schedule_of.ensures)

pub bounds-catalog-first : goal.bounds-catalog-first
bounds-catalog-first c = let q = c.requires.0 in first-low _ _ q.ts q.tabled q.follows _ c.schedule_of.ensures

pub words_needed-need-requires : goal.words_needed-need-requires
words_needed-need-requires c = let q = c.requires.0 in countable _ _ q.ts q.tabled q.follows _ c.schedule_of.ensures

pub returns-then-words-need : goal.returns-then-words-need
returns-then-words-need c = λ ts h a. scratch-short _ _ ts h a _ c.schedule_of.ensures _ _ c.words_needed-need.ensures c.if-words-need.true _ c.new.ensures

pub returns : goal.returns
returns c = λ ts h a. scratch_enough _ _ ts h a _ c.schedule_of.ensures _ _ c.words_needed-need.ensures c.if-words-need.false
