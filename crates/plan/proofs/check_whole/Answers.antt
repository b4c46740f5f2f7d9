-- `check_whole`: the first walk that refuses answers for all of them, and each that does not leaves the answer to those behind it.
use mathlib.Core.Path.{◌∙◌}
use Rattle.std.proofs.lemmas.Result.{err_from_is_err_and}
use Rattle.plan.specs.Checks.{checks_of}
use Rattle.plan.proofs.Walks.{walk_stops, walk_passes}
use Rattle.plan.proofs.check_whole.Goals as goal

pub returns-in_err-none_at : goal.returns-in_err-none_at
unfolding checks_of
returns-in_err-none_at c =
    let p = err_from_is_err_and c.from_residual.result c.from_residual.ensures.1 in
    rw (p.1, p.2)
    (walk_stops _ _ _ _ _ c.first_untied.ensures c.none_at.ensures _ _ _ c.in_err-none_at.was c.requires)

pub returns-in_err-none_at-2 : goal.returns-in_err-none_at-2
unfolding checks_of
returns-in_err-none_at-2 c =
    let p = err_from_is_err_and c.from_residual-in_err-none_at-2.result c.from_residual-in_err-none_at-2.ensures.1 in
    rw (p.1, p.2)
    (walk_stops _ _ _ _ _ c.first_lost.ensures c.none_at-2.ensures _ _ _ c.in_err-none_at-2.was c.requires
    ∙ walk_passes _ _ _ _ _ c.first_untied.ensures c.none_at.ensures _ _ c.in_ok-none_at.was)

pub returns-in_err-none_at-3 : goal.returns-in_err-none_at-3
unfolding checks_of
returns-in_err-none_at-3 c =
    let p = err_from_is_err_and c.from_residual-in_err-none_at-3.result c.from_residual-in_err-none_at-3.ensures.1 in
    rw (p.1, p.2)
    (walk_stops _ _ _ _ _ c.first_inside.ensures c.none_at-3.ensures _ _ _ c.in_err-none_at-3.was c.requires
    ∙ walk_passes _ _ _ _ _ c.first_lost.ensures c.none_at-2.ensures _ _ c.in_ok-none_at-2.was
    ∙ walk_passes _ _ _ _ _ c.first_untied.ensures c.none_at.ensures _ _ c.in_ok-none_at.was)

pub returns-in_err-none_at-4 : goal.returns-in_err-none_at-4
unfolding checks_of
returns-in_err-none_at-4 c =
    let p = err_from_is_err_and c.from_residual-in_err-none_at-4.result c.from_residual-in_err-none_at-4.ensures.1 in
    rw (p.1, p.2)
    (walk_stops _ _ _ _ _ c.first_not_one.ensures c.none_at-4.ensures _ _ _ c.in_err-none_at-4.was c.requires
    ∙ walk_passes _ _ _ _ _ c.first_inside.ensures c.none_at-3.ensures _ _ c.in_ok-none_at-3.was
    ∙ walk_passes _ _ _ _ _ c.first_lost.ensures c.none_at-2.ensures _ _ c.in_ok-none_at-2.was
    ∙ walk_passes _ _ _ _ _ c.first_untied.ensures c.none_at.ensures _ _ c.in_ok-none_at.was)

pub returns-in_err-none_at-5 : goal.returns-in_err-none_at-5
unfolding checks_of
returns-in_err-none_at-5 c =
    let p = err_from_is_err_and c.from_residual-in_err-none_at-5.result c.from_residual-in_err-none_at-5.ensures.1 in
    rw (p.1, p.2)
    (walk_stops _ _ _ _ _ c.first_unjoined.ensures c.none_at-5.ensures _ _ _ c.in_err-none_at-5.was c.requires
    ∙ walk_passes _ _ _ _ _ c.first_not_one.ensures c.none_at-4.ensures _ _ c.in_ok-none_at-4.was
    ∙ walk_passes _ _ _ _ _ c.first_inside.ensures c.none_at-3.ensures _ _ c.in_ok-none_at-3.was
    ∙ walk_passes _ _ _ _ _ c.first_lost.ensures c.none_at-2.ensures _ _ c.in_ok-none_at-2.was
    ∙ walk_passes _ _ _ _ _ c.first_untied.ensures c.none_at.ensures _ _ c.in_ok-none_at.was)

pub returns : goal.returns
unfolding checks_of
returns c =
    walk_passes _ _ _ _ _ c.first_unjoined.ensures c.none_at-5.ensures _ _ c.in_ok-none_at-5.was
    ∙ walk_passes _ _ _ _ _ c.first_not_one.ensures c.none_at-4.ensures _ _ c.in_ok-none_at-4.was
    ∙ walk_passes _ _ _ _ _ c.first_inside.ensures c.none_at-3.ensures _ _ c.in_ok-none_at-3.was
    ∙ walk_passes _ _ _ _ _ c.first_lost.ensures c.none_at-2.ensures _ _ c.in_ok-none_at-2.was
    ∙ walk_passes _ _ _ _ _ c.first_untied.ensures c.none_at.ensures _ _ c.in_ok-none_at.was
