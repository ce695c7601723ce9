-- The pieces of a text one by one, and the numbers behind each.
use Rattle.std.proofs.Common.{◌≡◌, ◌≤◌, ◌<◌, ℕ, ◌+◌, true, false, nat_le, List, [], ◌∷◌, length, take, drop, Option, Ok, Err, refl, sym, ◌∙◌, ap, inl, inr, arith, drop-drop, length-drop}
use Rattle.std.proofs.lemmas.Bool.{cases_Bool, le-leb, lt-leb, leb-true, leb-false}
use Rattle.std.specs.List.{list_any, position_or_len, slice_split}
use Rattle.yenc_lines.specs.declared.key.Key.{Key}
use Rattle.yenc_lines.specs.declared.key.Key.TheVariants as key
use Rattle.yenc_lines.specs.declared.key.KeyFault.{KeyFault}
use Rattle.yenc_lines.specs.Keywords.{same_key, is_space, item_of, items_in}
use Rattle.yenc_lines.specs.Gathered.{gathered, taken}
use Rattle.yenc_lines.proofs.ItemLaws.{pieces_from, split_step}
use Rattle.yenc_lines.proofs.KindLaws.{items_step}
use Rattle.yenc_lines.proofs.GatherLaws.{onto_goes, onto_fails}

pub pieces_start : (text : List ℕ) → pieces_from text 0 ≡ slice_split is_space text
pieces_start text = rw (le-leb 0 (length text) (omega arith)) refl

pieces_of_rest : (text : List ℕ) (at n : ℕ) → at ≤ length text → pieces_from (drop at text) (n + 1) ≡ pieces_from text (at + (n + 1))
pieces_of_rest text at n inside = elim (cases_Bool (nat_le (n + 1) (length (drop at text)))) [
  | inl holds ↦
      let also : nat_le (at + (n + 1)) (length text) ≡ true = le-leb _ _ (omega (arith, leb-true _ _ holds, length-drop at text)) in
      rw (holds, also) (ap (λ l. slice_split is_space l) (drop-drop (n + 1) at text))
  | inr lacks ↦
      let also : nat_le (at + (n + 1)) (length text) ≡ false = lt-leb _ _ (omega (arith, leb-false _ _ lacks, length-drop at text)) in
      rw (lacks, also) refl
]

pub pieces_step : (text : List ℕ) (at end : ℕ) → at ≤ length text → end ≡ position_or_len is_space (drop at text) →
    pieces_from text at ≡ take end (drop at text) ∷ pieces_from text (at + (end + 1))
pieces_step text at end inside is =
    rw (le-leb at (length text) inside)
    (split_step (drop at text) ∙ ap (λ n. take n (drop at text) ∷ pieces_from (drop at text) (n + 1)) (sym is) ∙ ap (λ (l : List (List ℕ)). take end (drop at text) ∷ l) (pieces_of_rest text at end inside))

pub pieces_end : (text : List ℕ) (at : ℕ) → length text < at → pieces_from text at ≡ []
pieces_end text at past = rw (lt-leb at (length text) past) refl

-- ---- one piece

pub gather_step : (known : List Key) (piece : List ℕ) (more : List (List ℕ)) (numbers now : List (Option ℕ)) → list_any (same_key key.Name) known ≡ false →
    taken numbers (item_of known piece) ≡ Ok now → gathered numbers (items_in known (piece ∷ more)) ≡ gathered now (items_in known more)
gather_step known piece more numbers now plain e =
    ap (gathered numbers) (items_step known piece more (item_of known piece) plain refl) ∙ onto_goes (item_of known piece) (items_in known more) numbers now e

pub gather_fails : (known : List Key) (piece : List ℕ) (more : List (List ℕ)) (numbers : List (Option ℕ)) (f : KeyFault) → list_any (same_key key.Name) known ≡ false →
    taken numbers (item_of known piece) ≡ Err f → gathered numbers (items_in known (piece ∷ more)) ≡ Err f
gather_fails known piece more numbers f plain e =
    ap (gathered numbers) (items_step known piece more (item_of known piece) plain refl) ∙ onto_fails (item_of known piece) (items_in known more) numbers f e

-- ---- the loop over the pieces

pub next_piece : (text rest : List ℕ) (at end : ℕ) → at ≤ length text → rest ≡ drop at text → end ≡ position_or_len is_space rest →
    pieces_from text at ≡ take end rest ∷ pieces_from text (at + (end + 1))
next_piece text rest at end inside rest_is is =
    pieces_step text at end inside (is ∙ ap (position_or_len is_space) rest_is) ∙ ap (λ (t : List ℕ). take end t ∷ pieces_from text (at + (end + 1))) (sym rest_is)

pub read_goes : (known : List Key) (text rest : List ℕ) (at end : ℕ) (numbers now : List (Option ℕ)) → list_any (same_key key.Name) known ≡ false → at ≤ length text → rest ≡ drop at text →
    end ≡ position_or_len is_space rest → taken numbers (item_of known (take end rest)) ≡ Ok now →
    gathered numbers (items_in known (pieces_from text at)) ≡ gathered now (items_in known (pieces_from text (at + (end + 1))))
read_goes known text rest at end numbers now plain inside rest_is is e =
    ap (λ (l : List (List ℕ)). gathered numbers (items_in known l)) (next_piece text rest at end inside rest_is is)
    ∙ gather_step known (take end rest) (pieces_from text (at + (end + 1))) numbers now plain e

pub read_fails : (known : List Key) (text rest : List ℕ) (at end : ℕ) (numbers : List (Option ℕ)) (f : KeyFault) → list_any (same_key key.Name) known ≡ false → at ≤ length text → rest ≡ drop at text →
    end ≡ position_or_len is_space rest → taken numbers (item_of known (take end rest)) ≡ Err f → gathered numbers (items_in known (pieces_from text at)) ≡ Err f
read_fails known text rest at end numbers f plain inside rest_is is e =
    ap (λ (l : List (List ℕ)). gathered numbers (items_in known l)) (next_piece text rest at end inside rest_is is)
    ∙ gather_fails known (take end rest) (pieces_from text (at + (end + 1))) numbers f plain e
