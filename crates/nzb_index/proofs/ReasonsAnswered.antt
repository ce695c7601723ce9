-- A text that has a reason of the table is refused for it, or for a limit that is passed before.
use Rattle.std.proofs.Common.{◌≡◌, ℕ, suc, ◌-◌, true, false, eqb, ◌||◌, List, [], ◌∷◌, ◌++◌, length, drop, Result, Ok, Err, refl, sym, ap, subst, ◌∙◌, append_assoc, arith, inl, inr, ◌⊎◌}
use Rattle.std.specs.Prelude.{codes, nat_eq, fold}
use Rattle.std.specs.List.{starts_with, list_any, list_all, concat, AllByRecursion}
use Rattle.std.proofs.lemmas.Bool.{cases_Bool, or_parts, and_parts, not-false, le-ltb}
use Rattle.std.proofs.lemmas.Bool.Decides.{nat_tests}
use Rattle.std.proofs.lemmas.List.{length-append}
use Rattle.nzb_index.specs.declared.error.NzbReason.{NzbReason}
use Rattle.nzb_index.specs.declared.error.NzbReason.TheVariants.{Unexpected, BadReference, Subset}
use Rattle.nzb_index.specs.declared.error.NzbLimit.{NzbLimit}
use Rattle.nzb_writer.specs.declared.index.Index.{Index}
use Rattle.nzb_writer.specs.Markup.{is_white, is_control, is_name_byte, unchecked, IsWhite, IsMarkupName, IsMarkupComment, IsBetween}
use Rattle.nzb_writer.specs.Nzb.{IsEntry, IsMark, IsDeclaration, IsDocumentType}
use Rattle.nzb_index.specs.MarkupReading.{Stop, Tag, stop_at, unexpected, word, name_at, one_white, between_or, between, tag_at, parent, only, ◌>>=◌}
use Rattle.nzb_index.specs.NzbReading.{refused_at, past, entry_item, type_end, behind_type, behind_mark, behind_declaration, nothing_behind, index_at, nzb_of, with_place}
use Rattle.nzb_index.specs.Refusal.{IsTextRefused, IsCutShort}
use Rattle.nzb_index.specs.Broken.{OtherByte, second_hyphen, in_comment, BrokenDeclaration, declaration_name, no_white_behind_xml, in_declaration, BrokenType, comment_before, type_name, no_white_behind_type, in_type, behind_type as behind_its_end, BrokenEnd, in_end, no_comment}
use Rattle.nzb_index.specs.Reasons.{RootFault, root_name, root_inside, EntryFault, NzbFault, in_nzb, subset, in_mark, in_xml, before_root, no_root, no_root_name, behind_root, ReasonsAreTold}
use Rattle.nzb_index.proofs.Words.{starts_front}
use Rattle.nzb_index.proofs.WordsRead.{NoName, name_back, up_to_back, Stops as Stands}
use Rattle.nzb_index.proofs.TagsRead.{name_other, open_back}
use Rattle.nzb_index.proofs.ElementsRead.{parent_back, between_stops, tag_stops}
use Rattle.nzb_index.proofs.IndexFound.{entered, Few}
use Rattle.nzb_index.proofs.IndexRead.{Plain, white_plain, between_plain, type_end_back, typed_back, entry_back, fewer_entries, is_nzb}
use Rattle.nzb_index.proofs.FaultsRead.{Tells, told, past_limit, not_judged, tells_bind, tells_as, bind_stop, word_told, letter_told, inside_told, name_missing, between_to, comment_told, between_told, white_stands, not_first}
use Rattle.nzb_index.proofs.ElementFaults.{bytes_other, not_tag, parent_fault_tells, parent_passes}
use Rattle.nzb_index.proofs.NzbFaults.{entry_passes, entry_tells}
use Rattle.limits.specs.declared.TheConstants.{MOST_TEXT_BYTES}

abbrev nothing_listed : Index
nothing_listed = record { metas = []; files = [] }

-- behind the root
abbrev over : Index × List ℕ → Result Index Stop
over index = between index.1 >>= λ behind. nothing_behind behind >>= λ nothing. Ok index.0

-- from the root's `<` on
abbrev named_root : List ℕ → List ℕ → List ℕ → Result Index Stop
named_root name from left = only (codes "nzb") name from >>= λ ok. tag_at unchecked left >>= λ tag. parent entry_item (codes "nzb") tag.0 nothing_listed tag.1 >>= over

abbrev root_at : List ℕ → Result Index Stop
root_at here = word (codes "<") here >>= λ inside. name_at inside >>= λ name. named_root name.0 here name.1

-- ---- in front of the root

mark_read : (text mark rest : List ℕ) → text ≡ mark ++ rest → IsMark mark → (text ≡ rest → starts_with nat_eq rest (0xEF ∷ []) ≡ false) → behind_mark text ≡ Ok rest
mark_read text mark rest e (inl m) none = let same : text ≡ rest = rw m at e in rw same (rw (none same) refl)
mark_read text mark rest e (inr m) none = rw (e, m) refl

declaration_read : (declaration middle : List ℕ) → IsDeclaration declaration → (declaration ≡ [] → starts_with nat_eq middle (codes "<?") ≡ false) → behind_declaration (declaration ++ middle) ≡ Ok middle
declaration_read d middle (inl e) none = rw e (rw (none e) refl)
declaration_read d middle (inr (w, inside, white, e, ends)) none = rw e (rw white (up_to_back 63 (codes ">") inside middle refl ends))

-- behind the mark and the declaration
middle_read : (text mark declaration middle : List ℕ) → text ≡ mark ++ (declaration ++ middle) → IsMark mark → IsDeclaration declaration → (text ≡ middle → starts_with nat_eq middle (0xEF ∷ []) ≡ false) →
    (text ≡ mark ++ middle → starts_with nat_eq middle (codes "<?") ≡ false) → index_at text ≡ (between_or behind_type (suc (length text)) middle >>= root_at)
middle_read text mark declaration middle e m d no_mark no_declaration =
    let marked = mark_read text mark (declaration ++ middle) e m (λ same. begins same d) in
    let declared = declaration_read declaration middle d (λ none. no_declaration (e ∙ ap (λ (t : List ℕ). mark ++ (t ++ middle)) none)) in
    rw marked (rw declared refl)
  where
    begins : text ≡ declaration ++ middle → IsDeclaration declaration → starts_with nat_eq (declaration ++ middle) (0xEF ∷ []) ≡ false
    begins same (inl f) = rw f (no_mark (same ∙ ap (λ (t : List ℕ). t ++ middle) f))
    begins same (inr (w, inside, white, f, ends)) = rw f refl

front_plain : (pieces : List (List ℕ)) (y : List ℕ) → AllByRecursion (λ p. IsWhite p ⊎ IsMarkupComment p) pieces → IsDocumentType y → (concat pieces ++ y ≡ []) ⊎ ((t : List ℕ) → Plain (concat pieces ++ (y ++ t)))
front_plain [] y h (inl e) = inl e
front_plain [] y h (inr (w, inside, behind, white, never, b, e)) = inr (λ t. rw e (record { no_mark = refl; no_declaration = refl }))
front_plain ([] ∷ pieces) y h d = front_plain pieces y h.1 d
front_plain ((x ∷ t) ∷ pieces) y (inl w, h) d = inr (λ u. starts u w)
  where
    starts : (u : List ℕ) → IsWhite (x ∷ t) → Plain ((x ∷ (t ++ concat pieces)) ++ (y ++ u))
    starts u w = white_plain x ((t ++ concat pieces) ++ (y ++ u)) (and_parts (is_white x) (list_all is_white t) w).0
front_plain ((x ∷ t) ∷ pieces) y (inr (front, e, ends), h) d = inr (λ u. subst (λ (q : List ℕ). Plain ((q ++ concat pieces) ++ (y ++ u))) (sym e) (record { no_mark = refl; no_declaration = refl }))

-- up to what stands where the root should
root_read : (text mark declaration front document_type from : List ℕ) → text ≡ mark ++ declaration ++ front ++ document_type ++ from → IsMark mark → IsDeclaration declaration → IsBetween front → IsDocumentType document_type → Stands from →
    (text ≡ from → starts_with nat_eq from (0xEF ∷ []) ≡ false) → (text ≡ mark ++ from → starts_with nat_eq from (codes "<?") ≡ false) → index_at text ≡ root_at from
root_read text mark declaration front document_type from e m d b y stands no_mark no_declaration = go b
  where
    joined : (t m d b y f : List ℕ) → t ≡ m ++ d ++ b ++ y ++ f → t ≡ m ++ (d ++ (b ++ (y ++ f)))
    joined t m d b y f e = rw e (simp append_assoc)

    gone : (b y : List ℕ) → b ++ y ≡ [] → b ++ (y ++ from) ≡ from
    gone b y n = sym (append_assoc b y from) ∙ ap (λ (t : List ℕ). t ++ from) n

    go : IsBetween front → index_at text ≡ root_at from
    go (pieces, f, all) =
        let whole = joined text mark declaration front document_type from e in
        let typed = between_to behind_type front (document_type ++ from) (Ok from) b (λ k. typed_back document_type from y stands k) (length text)
        (omega (arith, ap length whole, length-append mark (declaration ++ (front ++ (document_type ++ from))), length-append declaration (front ++ (document_type ++ from)))) in
        let marks : (text ≡ front ++ (document_type ++ from) → starts_with nat_eq (front ++ (document_type ++ from)) (0xEF ∷ []) ≡ false) × (text ≡ mark ++ (front ++ (document_type ++ from)) → starts_with nat_eq (front ++ (document_type ++ from)) (codes "<?") ≡ false) =
        elim (front_plain pieces document_type all y) [
          | inl nothing ↦
              let same : front ++ (document_type ++ from) ≡ from = gone front document_type (ap (λ (t : List ℕ). t ++ document_type) f ∙ nothing) in
              (λ h. subst (λ (t : List ℕ). starts_with nat_eq t (0xEF ∷ []) ≡ false) (sym same) (no_mark (h ∙ same)), λ h. subst (λ (t : List ℕ). starts_with nat_eq t (codes "<?") ≡ false) (sym same) (no_declaration (h ∙ ap (λ (t : List ℕ). mark ++ t) same)))
          | inr plain ↦
              let p : Plain (front ++ (document_type ++ from)) = subst (λ (t : List ℕ). Plain (t ++ (document_type ++ from))) (sym f) (plain from) in
              (λ h. p.no_mark, λ h. p.no_declaration)
        ] in
        middle_read text mark declaration (front ++ (document_type ++ from)) whole m d marks.0 marks.1 ∙ rw typed refl

-- ---- what breaks off in front of the root

white_missing : (here : List ℕ) → OtherByte is_white here → one_white here ≡ stop_at here Unexpected
white_missing here o = go here o.byte o.more o.here_is o.is_other
  where
    go : (h : List ℕ) (x : ℕ) (m : List ℕ) → h ≡ x ∷ m → is_white x ≡ false → one_white h ≡ stop_at h Unexpected
    go h x m e f = rw e (rw f refl)

declaration_told : (from here : List ℕ) → BrokenDeclaration from here → (behind_declaration from ≡ stop_at here Unexpected) × (starts_with nat_eq from (0xEF ∷ []) ≡ false)
declaration_told from here (declaration_name inside _ e b) =
    let stop : word (codes "<?xml") (codes "<?" ++ inside) ≡ stop_at here Unexpected = subst (λ (t : List ℕ). word (codes "<?xml") t ≡ stop_at here Unexpected) e (word_told (codes "<?xml") from here b) in
    (rw e (bind_stop (word (codes "<?xml") (codes "<?" ++ inside)) _ _ stop), rw e refl)
declaration_told from here (no_white_behind_xml _ e o) = (rw e (bind_stop (one_white here) _ _ (white_missing here o)), rw e refl)
declaration_told from here (in_declaration w inside _ e white b) = (rw e (rw white (inside_told 63 (codes ">") inside here refl b)), rw e refl)

type_stops_at : (inside here : List ℕ) (s : Stop) → list_any (λ b. eqb b 62 || eqb b 91 || is_control b) inside ≡ false → type_end here ≡ Err s → type_end (inside ++ here) ≡ Err s
type_stops_at [] here s h e = e
type_stops_at (x ∷ inside) here s h e =
    let a = or_parts (eqb x 62 || eqb x 91 || is_control x) (list_any (λ b. eqb b 62 || eqb b 91 || is_control b) inside) h in
    let k = or_parts (eqb x 62 || eqb x 91) (is_control x) a.0 in
    let b = or_parts (eqb x 62) (eqb x 91) k.0 in
    rw (b.0, b.1, k.1) (type_stops_at inside here s a.1 e)

control_in_type : (here : List ℕ) (x : ℕ) (m : List ℕ) → here ≡ x ∷ m → is_control x ≡ true → type_end here ≡ stop_at here Unexpected
control_in_type here x m e k = let c = no_type_byte x k in rw e (rw (c.0, c.1, k) refl)
  where
    no_type_byte : (y : ℕ) → is_control y ≡ true → (eqb y 62 ≡ false) × (eqb y 91 ≡ false)
    no_type_byte y t = (first y t, second y t)
      where
        first : (z : ℕ) → is_control z ≡ true → eqb z 62 ≡ false
        first z u = grind (arith, nat_tests)

        second : (z : ℕ) → is_control z ≡ true → eqb z 91 ≡ false
        second z u = grind (arith, nat_tests)

type_told : (from here : List ℕ) → BrokenType from here → (k : ℕ) → between_or behind_type (suc k) from ≡ stop_at here Unexpected
type_told from here (comment_before _ c) k = comment_told behind_type from here c k
type_told from here (type_name rest _ e o b) k = rw e (go rest o.byte o.more o.here_is o.is_other (word_told (codes "DOCTYPE") rest here b))
  where
    go : (r : List ℕ) (x : ℕ) (m : List ℕ) → r ≡ x ∷ m → eqb 45 x ≡ false → word (codes "DOCTYPE") r ≡ stop_at here Unexpected → between_or behind_type (suc k) (codes "<!" ++ r) ≡ stop_at here Unexpected
    go r x m f n w = rw f (rw n (bind_stop (word (codes "DOCTYPE") (x ∷ m)) _ _ (rw f at w)))
type_told from here (no_white_behind_type _ e o) k = rw e (bind_stop (one_white here) _ _ (white_missing here o))
type_told from here (in_type opened _ e (w, inside, white, never, f) o) k =
    let whole : from ≡ codes "<!DOCTYPE" ++ w ∷ (inside ++ here) = e ∙ ap (λ (t : List ℕ). t ++ here) f in
    rw whole (rw white (bind_stop (type_end (inside ++ here)) _ _ (type_stops_at inside here _ never (control_in_type here o.byte o.more o.here_is (not-false _ o.is_other)))))
type_told from here (behind_its_end y left _ e some (inl none) b) k = absurd (some none)
type_told from here (behind_its_end y left _ e some (inr (w, inside, behind, white, never, is_between, f)) b) k =
    let whole : from ≡ codes "<!DOCTYPE" ++ w ∷ (inside ++ 62 ∷ (behind ++ left)) = joined from y w inside behind e f in
    rw whole (rw white (rw (type_end_back inside (behind ++ left) never) (between_to unexpected behind left _ is_between (between_told left here b) (length (behind ++ left)) (omega arith))))
  where
    joined : (t y : List ℕ) (w : ℕ) (i b : List ℕ) → t ≡ y ++ left → y ≡ codes "<!DOCTYPE" ++ w ∷ i ++ codes ">" ++ b → t ≡ codes "<!DOCTYPE" ++ w ∷ (i ++ 62 ∷ (b ++ left))
    joined t y w i b e f = rw (e, f) (simp append_assoc)

marked_plain : (from i : List ℕ) → from ≡ codes "<!" ++ i → Plain from
marked_plain from i e = rw e (record { no_mark = refl; no_declaration = refl })

type_plain_too : (from here : List ℕ) → BrokenType from here → Plain from
type_plain_too from here (comment_before _ (second_hyphen inside _ e b)) = marked_plain from (45 ∷ inside) e
type_plain_too from here (comment_before _ (in_comment inside _ e b)) = marked_plain from (45 ∷ 45 ∷ inside) e
type_plain_too from here (type_name rest _ e o b) = marked_plain from rest e
type_plain_too from here (no_white_behind_type _ e o) = marked_plain from (codes "DOCTYPE" ++ here) e
type_plain_too from here (in_type opened _ e (w, inside, white, never, f) o) = marked_plain from (codes "DOCTYPE" ++ w ∷ (inside ++ here)) (e ∙ ap (λ (t : List ℕ). t ++ here) f)
type_plain_too from here (behind_its_end y left _ e some (inl none) b) = absurd (some none)
type_plain_too from here (behind_its_end y left _ e some (inr (w, inside, behind, white, never, is_between, f)) b) = rw (e, f) (record { no_mark = refl; no_declaration = refl })

-- what stops in front of the root, behind white and comments
front_told : (text mark declaration front from here : List ℕ) (reason : NzbReason) → text ≡ mark ++ declaration ++ front ++ from → IsMark mark → IsDeclaration declaration → IsBetween front → Plain from → ((k : ℕ) → between_or behind_type (suc k) from ≡ stop_at here reason) →
    Tells (index_at text) here reason
front_told text mark declaration front from here reason e m d b plain known = go b
  where
    joined : (t m d b f : List ℕ) → t ≡ m ++ d ++ b ++ f → t ≡ m ++ (d ++ (b ++ f))
    joined t m d b f e = rw e (simp append_assoc)

    go : IsBetween front → Tells (index_at text) here reason
    go (pieces, f, all) =
        let whole = joined text mark declaration front from e in
        let p : Plain (front ++ from) = rw f (between_plain pieces from all plain) in
        let stop = between_to behind_type front from _ b known (length text) (omega (arith, ap length whole, length-append mark (declaration ++ (front ++ from)), length-append declaration (front ++ from))) in
        tells_as _ _ here reason (middle_read text mark declaration (front ++ from) whole m d (λ h. p.no_mark) (λ h. p.no_declaration)) (tells_bind (between_or behind_type (suc (length text)) (front ++ from)) root_at here reason (told stop))

-- ---- the root

root_tells : (from here : List ℕ) (reason : NzbReason) → RootFault from here reason → (name : List ℕ) × (left : List ℕ) × (from ≡ 60 ∷ (name ++ left)) × IsMarkupName name × NoName left × Tells (named_root name from left) here reason
root_tells from here _ (root_name other (inside, e, ends) differs) =
    (other, ends.byte ∷ ends.more, e ∙ ap (λ (t : List ℕ). 60 ∷ t) ends.text_is, ends.is_name, record { byte = ends.byte; more = ends.more; text_is = refl; is_none = ends.is_other }, told (rw (bytes_other other (codes "nzb") differs) refl))
root_tells from here reason (root_inside _ _ x) =
    let p = parent_fault_tells unchecked entry_item IsEntry entered Few EntryFault (codes "nzb") entry_passes entry_tells (λ tag. nothing_listed) (λ tag. (omega arith, omega arith)) (λ tag index. over index) from here reason x in
    (codes "nzb", p.0, p.1, is_nzb, p.2, p.3)

-- where white and comments end, `<!--` breaks off at the same byte
end_breaks : (from here : List ℕ) → BrokenEnd from here → (behind : List ℕ) → IsBetween behind → Tells (between (behind ++ from) >>= nothing_behind) here Unexpected
end_breaks from here (in_end _ b) behind is = tells_bind (between (behind ++ from)) nothing_behind here _ (told (between_to unexpected behind from _ is (between_told from here b) (length (behind ++ from)) (omega arith)))
end_breaks from here (no_comment _ o b) behind is = elim (cases_Bool (starts_with nat_eq from (codes "<!"))) [
  | inl t ↦ tells_bind (between (behind ++ from)) nothing_behind here _ (told (between_to unexpected behind from _ is (λ k. marked (drop 2 from) (starts_front from (codes "<!") t) k) (length (behind ++ from)) (omega arith)))
  | inr f ↦ let stands : between (behind ++ from) ≡ Ok from = between_stops behind from is (record { no_white = white_stands is_white from o o.is_other; no_comment = f }) in rw stands (nothing from o.byte o.more o.here_is stop)
]
  where
    stop : word (codes "<!--") from ≡ stop_at here Unexpected
    stop = word_told (codes "<!--") from here b

    nothing : (f : List ℕ) (x : ℕ) (m : List ℕ) → f ≡ x ∷ m → word (codes "<!--") f ≡ stop_at here Unexpected → Tells (nothing_behind f) here Unexpected
    nothing f x m e s = rw e (tells_bind (word (codes "<!--") (x ∷ m)) unexpected here _ (told (rw e at s)))

    marked : (d : List ℕ) → from ≡ codes "<!" ++ d → (k : ℕ) → between_or unexpected (suc k) from ≡ stop_at here Unexpected
    marked d e k = rw e (dashed d (subst (λ (t : List ℕ). word (codes "<!--") t ≡ stop_at here Unexpected) e stop))
      where
        dashed : (d : List ℕ) → word (codes "--") d ≡ stop_at here Unexpected → between_or unexpected (suc k) (codes "<!" ++ d) ≡ stop_at here Unexpected
        dashed [] s = s
        dashed (x ∷ m) s = elim (cases_Bool (eqb 45 x)) [ inl t ↦ rw t (bind_stop (word (codes "-") m) _ _ (rw t at s)) | inr f ↦ rw f (rw f at s) ]

index_tells : (text here : List ℕ) (reason : NzbReason) → NzbFault text here reason → Tells (index_at text) here reason
index_tells text here reason (in_nzb mark declaration front y from _ _ e m d b is x) =
    let r = root_tells from here reason x in
    let stands : Stands from = subst Stands (sym r.2) (tag_stops r.0 r.1 r.3) in
    let read = root_read text mark declaration front y from e m d b is stands (λ h. rw r.2 refl) (λ h. rw r.2 (name_other 63 r.0 r.1 refl r.3)) in
    tells_as _ _ here reason (read ∙ named from r.0 r.1 r.2 r.3 r.4) r.5
  where
    named : (f name left : List ℕ) → f ≡ 60 ∷ (name ++ left) → IsMarkupName name → NoName left → root_at f ≡ named_root name f left
    named f name left e n o = rw e (rw (name_back name left n o) refl)
index_tells text here _ (subset mark declaration front opened more e m d b (w, inside, white, never, f)) =
    let whole : opened ++ 91 ∷ more ≡ codes "<!DOCTYPE" ++ w ∷ (inside ++ 91 ∷ more) = ap (λ (t : List ℕ). t ++ 91 ∷ more) f in
    front_told text mark declaration front (opened ++ 91 ∷ more) (91 ∷ more) Subset (joined text mark declaration front opened (91 ∷ more) e) m d b (marked_plain _ (codes "DOCTYPE" ++ w ∷ (inside ++ 91 ∷ more)) whole)
    (λ k. rw whole (rw white (bind_stop (type_end (inside ++ 91 ∷ more)) _ _ (type_stops_at inside (91 ∷ more) _ never refl))))
  where
    joined : (t m d b o r : List ℕ) → t ≡ m ++ d ++ b ++ o ++ r → t ≡ m ++ d ++ b ++ (o ++ r)
    joined t m d b o r e = rw e (simp append_assoc)
index_tells text here _ (in_mark inside _ e b) =
    let stop : word (0xEF ∷ 0xBB ∷ 0xBF ∷ []) (0xEF ∷ inside) ≡ stop_at here Unexpected = subst (λ (t : List ℕ). word (0xEF ∷ 0xBB ∷ 0xBF ∷ []) t ≡ stop_at here Unexpected) e (word_told (0xEF ∷ 0xBB ∷ 0xBF ∷ []) text here b) in
    rw e (tells_bind (word (0xEF ∷ 0xBB ∷ 0xBF ∷ []) (0xEF ∷ inside)) _ here _ (told stop))
index_tells text here _ (in_xml mark from _ e m b) =
    let t = declaration_told from here b in
    rw (mark_read text mark from e m (λ same. t.1)) (tells_bind (behind_declaration from) _ here _ (told t.0))
index_tells text here _ (before_root mark declaration front from _ e m d b t) = front_told text mark declaration front from here _ e m d b (type_plain_too from here t) (type_told from here t)
index_tells text here _ (no_root mark declaration front y _ e m d b is o no_mark) =
    let f = or_parts (is_white o.byte) (eqb 60 o.byte) o.is_other in
    let stands : Stands here = record { no_white = white_stands _ here o f.0; no_comment = not_tag 33 here o.byte o.more o.here_is f.1 } in
    let read = root_read text mark declaration front y here e m d b is stands (λ same. let n = no_mark same in not_first 0xEF here n.byte n.more n.here_is n.is_other) (λ same. not_tag 63 here o.byte o.more o.here_is f.1) in
    tells_as _ _ here _ read (tells_bind (word (codes "<") here) _ here _ (told (letter_told 60 _ here o f.1)))
index_tells text here _ (no_root_name mark declaration front y from _ e m d b is begun o no_declaration) =
    let f = or_parts (is_name_byte o.byte) (eqb 33 o.byte) o.is_other in
    let stands : Stands from = rw begun (record { no_white = refl; no_comment = not_first 33 here o.byte o.more o.here_is f.1 }) in
    let read = root_read text mark declaration front y from e m d b is stands (λ same. rw begun refl) (λ same. let n = no_declaration same in rw begun (not_first 63 here n.byte n.more n.here_is n.is_other)) in
    tells_as _ _ here _ read (rw begun (tells_bind (name_at here) _ here _ (told (name_missing _ here o f.0))))
index_tells text here _ (behind_root mark declaration front y root behind from _ index e m d b is (attributes, inside, entries, el, are, metas, files) is_behind broken) =
    let o = open_back unchecked (codes "nzb") root attributes inside (behind ++ from) el in
    let whole : List ℕ = 60 ∷ (codes "nzb" ++ o.left) in
    let tag : Tag = record { attributes = attributes; closed = o.closed } in
    let read = root_read text mark declaration front y whole (joined text mark declaration front y root behind from whole e o.text_is) m d b is (tag_stops (codes "nzb") o.left is_nzb) (λ same. refl) (λ same. refl) in
    let named : root_at whole ≡ (parent entry_item (codes "nzb") tag nothing_listed o.mid >>= over) = rw (name_back (codes "nzb") o.left is_nzb o.ends) (rw o.tag refl) in
    tells_as _ _ here _ (read ∙ named) (elim (parent_passes entry_item IsEntry entered Few (codes "nzb") entry_passes tag nothing_listed o.mid inside (behind ++ from) entries o.content are (omega arith, omega arith)) [
      | inr (l, f) ↦ past_limit l (rw f refl)
      | inl few ↦
          let all = parent_back entry_item IsEntry entered Few (codes "nzb") entry_back fewer_entries is_nzb tag nothing_listed o.mid inside (behind ++ from) entries o.content are few in
          rw all (ending (fold entered nothing_listed entries) (end_breaks from here broken behind is_behind))
    ])
  where
    joined : (t m d b y r l f h : List ℕ) → t ≡ m ++ d ++ b ++ y ++ r ++ l ++ f → r ++ (l ++ f) ≡ h → t ≡ m ++ d ++ b ++ y ++ h
    joined t m d b y r l f h e g = rw (e, ← g) (simp append_assoc)

    ending : (i : Index) → Tells (between (behind ++ from) >>= nothing_behind) here Unexpected → Tells (over (i, behind ++ from)) here Unexpected
    ending i t = tells_as _ _ here _ (twice (between (behind ++ from))) (tells_bind (between (behind ++ from) >>= nothing_behind) (λ nothing. given i) here _ t)
      where
        given : Index → Result Index Stop
        given j = Ok j

        twice : (r : Result (List ℕ) Stop) → (r >>= λ left. nothing_behind left >>= λ nothing. given i) ≡ ((r >>= nothing_behind) >>= λ nothing. given i)
        twice (Ok left) = refl
        twice (Err s) = refl

pub reasons_told : ReasonsAreTold
unfolding nzb_of
reasons_told text place reason short (here, at, fault) = go (index_tells text here reason fault)
  where
    read : nzb_of text ≡ with_place (length text) (index_at text)
    read = rw (le-ltb MOST_TEXT_BYTES (length text) short) refl

    go : Tells (index_at text) here reason → IsTextRefused text (refused_at place reason) ⊎ ((passed : NzbLimit) × IsTextRefused text (past passed)) ⊎ ((reason ≡ BadReference) × IsCutShort text)
    go (told e) = inl (read ∙ rw e (rw at refl))
    go (past_limit l e) = inr (inl (l, read ∙ rw e refl))
    go (not_judged b e) = inr (inr (b, read ∙ rw e (let same : length text - 0 ≡ length text = omega arith in rw same refl)))
