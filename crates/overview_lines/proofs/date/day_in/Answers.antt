-- The number of the day is that of the date, which is known.
use Rattle.std.proofs.Common.{◌≡◌, ◌≤◌, ℤ, pos, Some, refl, sym, ◌∙◌, ap, arith, FitsSigned, to_z, of_z, w32}
use Rattle.std.proofs.lemmas.Int.{to_z-of_z}
use Rattle.std.specs.Prelude.{nat_abs}
use Rattle.jiff_core.proofs.SignedLemmas.{signed_arith}
use Rattle.overview_lines.specs.Date.{day_number}
use Rattle.overview_lines.proofs.DayLaws.{made_day, made_number, no_day}
use Rattle.overview_lines.proofs.date.day_in.Goals as goal

-- the number that the calendar gives
known : (c : goal.After-to_unix_epoch_day) → c.to_unix_epoch_day.result ≡ pos (day_number c.args.year c.args.month c.args.day)
known c =
    made_number c.args.year c.args.month c.args.day c.in-Ok.date c.to_plain.result c.to_unix_epoch_day.result c.requires.year_least c.requires.year_most c.requires.month_most
    c.requires.day_most c.in-Ok.ensures.value c.to_plain.ensures c.to_unix_epoch_day.ensures.value

same : (c : goal.After-to_unix_epoch_day) → to_z w32 (of_z w32 c.to_unix_epoch_day.result) ≡ pos (day_number c.args.year c.args.month c.args.day)
same c =
    let fits : FitsSigned w32 c.to_unix_epoch_day.result = omega (arith, signed_arith, c.to_unix_epoch_day.ensures.bound) in
    to_z-of_z w32 c.to_unix_epoch_day.result fits ∙ known c

small : (c : goal.After-to_unix_epoch_day) → day_number c.args.year c.args.month c.args.day ≤ 2932896
small c = let last = rw (known c) at c.to_unix_epoch_day.ensures.bound.1 in omega (arith, signed_arith, last)

pub overflow_cast-result : goal.overflow_cast-result
overflow_cast-result c = let few = small c in rw (same c) (tt, omega (arith, few))

pub returns-in-Ok-clause-reading : goal.returns-in-Ok-clause-reading
returns-in-Ok-clause-reading c =
    ap (λ (z : ℤ). Some (nat_abs z)) (same c)
    ∙ sym (made_day c.args.year c.args.month c.args.day c.requires.year_most c.requires.month_most c.requires.day_most (c.in-Ok.ensures.succeeds.0 refl))

pub returns-in-Ok-clause-most : goal.returns-in-Ok-clause-most
returns-in-Ok-clause-most c = rw (same c) (small c)

pub returns-in-Err-clause-reading : goal.returns-in-Err-clause-reading
returns-in-Err-clause-reading c =
    sym (no_day c.args.year c.args.month c.args.day c.requires.year_most c.requires.month_least c.requires.month_most c.requires.day_most (λ date. let wrong = c.in-Err.ensures.succeeds.1 date in cc))
