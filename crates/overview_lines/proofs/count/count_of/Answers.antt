-- What is said of the count is said of the last count of the subject.
use Rattle.std.proofs.Common.{◌≡◌, ◌<◌, ◌≤◌, Option, Some, None, length, sym}
use Rattle.std.specs.Prelude.{IfNone}
use Rattle.overview_lines.specs.declared.count.Count.{Count}
use Rattle.overview_lines.specs.Count.{IsCount, IsLastCount, count_of}
use Rattle.overview_lines.proofs.CountLaws.{count_within, unread_is_none, where_read}
use Rattle.overview_lines.proofs.count.count_of.Goals as goal

pub returns-clause-last : goal.returns-clause-last
returns-clause-last c = where_read (IsLastCount c.args.subject.now) c.args.subject.now c.last_count.result c.last_count.ensures (λ count last. last)

pub returns-clause-none : goal.returns-clause-none
returns-clause-none c = by_count c.last_count.result c.last_count.ensures
  where
    by_count : (found : Option Count) → found ≡ count_of c.args.subject.now → IfNone found ((count : Count) → ¬ IsCount c.args.subject.now count)
    by_count None is = unread_is_none c.args.subject.now (sym is)
    by_count (Some count) is = tt

pub returns-clause-order : goal.returns-clause-order
returns-clause-order c =
    where_read (λ count. count.start < count.end) c.args.subject.now c.last_count.result c.last_count.ensures (λ count last. (count_within c.args.subject.now count last).order)

pub returns-clause-within : goal.returns-clause-within
returns-clause-within c =
    where_read (λ count. count.end ≤ length c.args.subject.now) c.args.subject.now c.last_count.result c.last_count.ensures
    (λ count last. (count_within c.args.subject.now count last).within)

pub returns-clause-some : goal.returns-clause-some
returns-clause-some c =
    where_read (λ count. 1 ≤ count.part) c.args.subject.now c.last_count.result c.last_count.ensures (λ count last. (count_within c.args.subject.now count last).some)

pub returns-clause-few : goal.returns-clause-few
returns-clause-few c =
    where_read (λ count. count.part ≤ 9999999) c.args.subject.now c.last_count.result c.last_count.ensures (λ count last. (count_within c.args.subject.now count last).few)

pub returns-clause-total : goal.returns-clause-total
returns-clause-total c =
    where_read (λ count. count.total ≤ 9999999) c.args.subject.now c.last_count.result c.last_count.ensures (λ count last. (count_within c.args.subject.now count last).total)
