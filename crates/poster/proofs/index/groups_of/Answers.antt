use Rattle.std.proofs.Common.{◌≡◌, ◌==◌, ◌∙◌, List, Option, None, rules}
use Rattle.std.specs.Prelude.{map}
use Rattle.std.specs.Iterator.{Yields}
use Rattle.std.proofs.lemmas.Iterator.{YieldsList}
use Rattle.std.proofs.lemmas.Iterator.Consumers.{YieldsList-at, YieldsList-end}
use Rattle.std.proofs.lemmas.Iterator.Splits.{YieldsList-from_slice_split}
use Rattle.poster.proofs.index.groups_of.Goals as goal

-- what was yielded until nothing was left
yielded_all : {S A B : Type 0} {steps : S → Option A → S → Type 0} {v : A → B} {s : S} {all : List B} (xs : List A) (t u : S) (r : Option A) → Yields steps s xs t → r ≡ None → steps t r u → YieldsList steps v s all → map v xs ≡ all
yielded_all xs t u r so_far none step pieces = (YieldsList-end pieces xs t so_far r u none step).0

pub returns : goal.returns
returns c =
    c.loop-name.invariant
    ∙ yielded_all c.loop-name.yielded _ _ _ c.loop-name.yielded_by c.in-None.is c.next.ensures.steps
    (YieldsList-at c.into_iter-name-iterator.ensures.into_iter_gives
    (YieldsList-from_slice_split _ (λ byte. byte == 44) c.args.newsgroups.now c.split-name-items.ensures.rest c.split-name-items.ensures.done c.split-name-items.ensures.closure (λ x b q k. search rules)))
