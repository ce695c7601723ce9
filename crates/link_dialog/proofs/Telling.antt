-- A trace that is told goes on.
use Rattle.std.proofs.Common.{◌≡◌, ◌<◌, ◌+◌, ◌≤◌, ℕ, List, [], ◌∷◌, ◌++◌, Option, Some, None, refl, ap, sym, subst, ◌∙◌, append_assoc, append-nil, length, take, drop}
use Rattle.std.specs.List.{concat}
use Rattle.std.proofs.lemmas.List.{map-append}
use Rattle.std.proofs.lemmas.List.{length-take-le, take_all}
use Rattle.std.proofs.Math.Seq.{take-add}
use Rattle.io_traits.specs.declared.links.LinkEvent.{LinkEvent}
use Rattle.io_traits.specs.declared.links.LinkEvent.TheVariants.{Sent, Ended}
use Rattle.io_traits.specs.Links.{tell}
use Rattle.link_dialog.specs.Sending.{sends, ArePieces, SentWhole, SentInPart}

pub tell-tell : (told : Option (List LinkEvent)) (first second : List LinkEvent) → tell (tell told first) second ≡ tell told (first ++ second)
tell-tell None first second = refl
tell-tell (Some trace) first second = ap (λ t. Some t) (append_assoc trace first second)

pub tell-nothing : (told : Option (List LinkEvent)) → told ≡ tell told []
tell-nothing None = refl
tell-nothing (Some trace) = ap (λ t. Some t) (sym (append-nil trace))

concat_push : (pieces : List (List ℕ)) (piece : List ℕ) → concat (pieces ++ piece ∷ []) ≡ concat pieces ++ piece
concat_push [] piece = append-nil piece
concat_push (p ∷ pieces) piece = ap (λ t. p ++ t) (concat_push pieces piece) ∙ sym (append_assoc p (concat pieces) piece)

full_push : (pieces : List (List ℕ)) (piece : List ℕ) → ArePieces pieces → 0 < length piece → ArePieces (pieces ++ piece ∷ [])
full_push [] piece full some = (some, tt)
full_push (p ∷ pieces) piece full some = (full.0, full_push pieces piece full.1 some)

pub nothing_sent : (told : Option (List LinkEvent)) (link : ℕ) → SentWhole told told link []
nothing_sent told link = record { pieces = []; told = tell-nothing told; full = tt; whole = refl }

-- one more piece
pub sent_more : (before now after : Option (List LinkEvent)) (link : ℕ) (front piece : List ℕ) → SentWhole before now link front → after ≡ tell now (Sent link piece ∷ []) → 0 < length piece → SentWhole before after link (front ++ piece)
sent_more before now after link front piece s told some = record {
  pieces = s.pieces ++ piece ∷ [];
  told = told ∙ ap (λ t. tell t (Sent link piece ∷ [])) s.told ∙ tell-tell before (sends link s.pieces) (Sent link piece ∷ []) ∙ ap (λ t. tell before t) (sym (map-append (λ p. Sent link p) s.pieces (piece ∷ [])));
  full = full_push s.pieces piece s.full some;
  whole = concat_push s.pieces piece ∙ ap (λ t. t ++ piece) s.whole;
}

-- the link ends
pub ended_in_part : (before now after : Option (List LinkEvent)) (link : ℕ) (bytes : List ℕ) (n : ℕ) → SentWhole before now link (take n bytes) → after ≡ tell now (Ended link ∷ []) → n < length bytes → SentInPart before after link bytes n
ended_in_part before now after link bytes n s told below = record {
  pieces = s.pieces;
  told = told ∙ ap (λ t. tell t (Ended link ∷ [])) s.told ∙ tell-tell before (sends link s.pieces) (Ended link ∷ []);
  full = s.full;
  front = s.whole;
  some = below;
}

-- one more send of what is left
pub sent_next : (before now after : Option (List LinkEvent)) (link : ℕ) (bytes : List ℕ) (i n : ℕ) → SentWhole before now link (take i bytes) → after ≡ tell now (Sent link (take n (drop i bytes)) ∷ []) → 0 < n → n ≤ length (drop i bytes) → SentWhole before after link (take (i + n) bytes)
sent_next before now after link bytes i n s told some fits =
    let P : List ℕ → Type 0 = λ t. SentWhole before after link t in
    let full : 0 < length (take n (drop i bytes)) = rw (length-take-le n (drop i bytes) fits) some in
    subst P (sym (take-add i n bytes)) (sent_more before now after link (take i bytes) (take n (drop i bytes)) s told full)

pub all_sent : (before after : Option (List LinkEvent)) (link : ℕ) (bytes : List ℕ) (n : ℕ) → length bytes ≤ n → SentWhole before after link (take n bytes) → SentWhole before after link bytes
all_sent before after link bytes n all s = subst (λ (t : List ℕ). SentWhole before after link t) (take_all n bytes all) s
