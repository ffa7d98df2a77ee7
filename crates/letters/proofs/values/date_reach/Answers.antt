-- `values::date_reach` meets its contract, piece by piece: the year and the month that are read give the last day. Assumes nothing.
use Prim.Native.Nat.{ℕ, ◌+◌}
use Rattle.letters.proofs.JoinLaws.{fixed-is, number_is}
use Rattle.letters.proofs.RuleLaws.{few-days}
use Rattle.letters.proofs.values.date_reach.Goals as goal
use Rattle.letters.specs.inner.Reach.{date_reach, day_reach, month_reach, number_letters, reach_of}
use Rattle.octets.specs.Ascii.{ascii}
use Rattle.rules.specs.Date.{days_in}
use Rattle.rules.specs.Pieces.{decimal_at}
use lib.Dec.{eqb}
use lib.ListN.{drop}
use mathlib.Core.Bool.{cond}
use mathlib.Core.Path.{◌≡◌, subst, ◌∙◌}
use native.Mathlib.Nat.{zero-add}
use native.Mathlib.Omega.{arith}

pub number_or-day-requires : goal.number_or-day-requires
number_or-day-requires c = (omega arith, omega (arith, c.days_in-last.ensures, few-days c.number_at.result c.number_at-2.result))

pub returns : goal.returns
unfolding date_reach day_reach month_reach reach_of
returns c =
    let s = c.args.s.now in
    let y = decimal_at 4 s 0 in
    let m = decimal_at 2 s 5 in
    let last : c.days_in-last.result ≡ days_in y m = c.days_in-last.ensures ∙ rw (c.number_at.ensures, c.number_at-2.ensures) in
    let Says : ℕ → Type 0 = λ h. c.number_or-day.result ≡ cond (eqb (number_letters 1 h 2 0 (drop 8 s)) 2)
    c.time_reach.result (8 + number_letters 1 h 2 0 (drop 8 s)) in
    number_is 1 9999 month_reach s 0 4
    (fixed-is _ s 4 (ascii "-")
    (number_is 1 12 (day_reach y) s 5 2
    (fixed-is _ s 7 (ascii "-")
    (number_is 1 (days_in y m) _ s 8 2 c.time_reach.ensures
    (subst Says last c.number_or-day.ensures))
    c.fixed_or.ensures)
    c.number_or-month.ensures)
    c.fixed_or-2.ensures)
    c.number_or.ensures ∙ zero-add _
