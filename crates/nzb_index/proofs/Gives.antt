-- What a reader's value has, by how the reader is put together.
use Rattle.std.proofs.Common.{◌≡◌, ◌≢◌, ℕ, suc, zero, ◌≤◌, Bool, true, false, cond, eqb, List, [], ◌∷◌, ◌++◌, length, take, drop, Result, Ok, Err, refl, sym, ap, subst, ◌∙◌, append_assoc, arith, inl, inr, ◌⊎◌}
use Rattle.std.specs.Prelude.{codes, nat_eq}
use Rattle.std.specs.List.{starts_with, prefix_len}
use Rattle.std.proofs.lemmas.Bool.{eqb-false}
use Rattle.std.proofs.lemmas.List.{take-append-drop, length-take, append-nil}
use Rattle.std.proofs.lemmas.List.Sums.{prefix_len-le-length}
use Rattle.nzb_writer.specs.Markup.{is_white, is_name_byte, IsWhite, IsMarkupName, IsBetween, IsMarkupComment, EndsAtFirst}
use Rattle.nzb_index.specs.MarkupReading.{Stop, word, up_to, unexpected, behind_white, between_or, between, name_at, ◌>>=◌}
use Rattle.nzb_index.proofs.Words.{word_found, up_to_found, white_front, starts_front}
use Rattle.nzb_index.proofs.TextsFound.{front_passes}

-- whatever value it is
pub record Gives {A : Type 0} (r : Result A Stop) (P : A → Type 0) : Type 0 where
  pub given : (x : A) → r ≡ Ok x → P x

pub gives_ok : {A : Type 0} {P : A → Type 0} (x : A) → P x → Gives (Ok x) P
gives_ok {A} {P} x p = record { given = λ y e. let same : x ≡ y = cc in subst P same p }

pub gives_err : {A : Type 0} {P : A → Type 0} (s : Stop) → Gives (Err s) P
gives_err {A} {P} s = record { given = λ y e. absurd cc }

pub gives_bind : {A B : Type 0} {P : A → Type 0} {Q : B → Type 0} (r : Result A Stop) (f : A → Result B Stop) → Gives r P → ((x : A) → P x → Gives (f x) Q) → Gives (r >>= f) Q
gives_bind (Ok x) f g h = h x (g.given x refl)
gives_bind (Err s) f g h = gives_err s

pub gives_if : {A : Type 0} {Q : A → Type 0} (b : Bool) (x y : Result A Stop) → (b ≡ true → Gives x Q) → (b ≡ false → Gives y Q) → Gives (cond b x y) Q
gives_if true x y g h = g refl
gives_if false x y g h = h refl

pub gives_unexpected : {A : Type 0} {Q : A → Type 0} (text : List ℕ) → Gives (unexpected text) Q
gives_unexpected [] = gives_err _
gives_unexpected (x ∷ text) = gives_err _

pub gives_as : {A : Type 0} {P Q : A → Type 0} (r : Result A Stop) → Gives r P → ((x : A) → P x → Q x) → Gives r Q
gives_as r g h = record { given = λ x e. h x (g.given x e) }

-- a test that only stops
pub gives_test : {A : Type 0} {Q : A → Type 0} (b : Bool) (s : Stop) (f : Bool → Result A Stop) → (b ≡ true → Gives (f true) Q) → Gives (cond b (Ok true) (Err s) >>= f) Q
gives_test true s f g = g refl
gives_test false s f g = gives_err s

pub gives_not : {A : Type 0} {Q : A → Type 0} (b : Bool) (s : Stop) (f : Bool → Result A Stop) → (b ≡ false → Gives (f true) Q) → Gives (cond b (Err s) (Ok true) >>= f) Q
gives_not true s f g = gives_err s
gives_not false s f g = g refl

-- ---- the small readers

pub word_gives : (w text : List ℕ) → Gives (word w text) (λ rest. text ≡ w ++ rest)
word_gives w text = record { given = λ rest e. word_found w text rest e }

pub up_to_gives : (c : ℕ) (w text : List ℕ) → Gives (up_to (c ∷ w) text) (λ rest. (front : List ℕ) × (text ≡ front ++ rest) × EndsAtFirst front (c ∷ w))
up_to_gives c w text = record { given = λ rest e. up_to_found c w text rest e }

pub record White (text : List ℕ) : Type 0 where
  pub front : List ℕ
  pub text_is : text ≡ front ++ behind_white text
  pub is_white : IsWhite front

pub white_taken : (text : List ℕ) → White text
white_taken text = record { front = take (prefix_len is_white text) text; text_is = sym (take-append-drop (prefix_len is_white text) text); is_white = white_front text }

pub some_taken : (k : ℕ) (text : List ℕ) → eqb k (length text) ≡ false → eqb k 0 ≡ false → k ≤ length text → take k text ≢ []
some_taken k text h z l empty = let not_zero = eqb-false k 0 z in absurd (omega (arith, ap length empty, length-take k text, not_zero))

pub between_piece : (front text : List ℕ) → IsWhite front ⊎ IsMarkupComment front → IsBetween text → IsBetween (front ++ text)
between_piece front text h (pieces, e, all) = (front ∷ pieces, ap (λ (t : List ℕ). front ++ t) e, (h, all))

-- White and comments are taken, and then another byte stands, or `otherwise` reads on behind `<!`.
pub record Between (P : List ℕ → List ℕ → Type 0) (text rest : List ℕ) : Type 0 where
  pub front : List ℕ
  pub mid : List ℕ
  pub text_is : text ≡ front ++ mid
  pub is_between : IsBetween front
  pub ending : (mid ≡ rest) ⊎ ((more : List ℕ) × (mid ≡ codes "<!" ++ more) × P more rest)

pub between_or_gives : (otherwise : List ℕ → Result (List ℕ) Stop) (P : List ℕ → List ℕ → Type 0) → ((rest : List ℕ) → Gives (otherwise rest) (P rest)) → (fuel : ℕ) (text : List ℕ) →
    Gives (between_or otherwise fuel text) (Between P text)
between_or_gives otherwise P other zero text = gives_err _
between_or_gives otherwise P other (suc fuel) text =
    let w = white_taken text in
    let here = behind_white text in
    let only_white : IsBetween w.front = (w.front ∷ [], sym (append-nil w.front), (inl w.is_white, tt)) in
    gives_if (starts_with nat_eq here (codes "<!")) _ _
    (λ e. gives_if (starts_with nat_eq here (codes "<!-")) _ _
    (λ c. gives_bind (word (codes "<!--") here) _ (word_gives (codes "<!--") here) (λ inside opened.
    gives_bind (up_to (codes "-->") inside) _ (up_to_gives 45 (codes "->") inside) (λ behind closed.
    gives_as _ (between_or_gives otherwise P other fuel behind) (λ rest more. record {
      front = w.front ++ ((codes "<!--" ++ closed.0) ++ more.front);
      mid = more.mid;
      text_is = joined text w.front here inside closed.0 behind more.front more.mid w.text_is opened closed.1 more.text_is;
      is_between = between_piece w.front ((codes "<!--" ++ closed.0) ++ more.front) (inl w.is_white) (between_piece (codes "<!--" ++ closed.0) more.front (inr (closed.0, refl, closed.2)) more.is_between);
      ending = more.ending;
    }))))
    (λ c. gives_as _ (other (drop 2 here)) (λ rest p. record { front = w.front; mid = here; text_is = w.text_is; is_between = only_white; ending = inr (drop 2 here, starts_front here (codes "<!") e, p) })))
    (λ e. gives_ok _ (record { front = w.front; mid = here; text_is = w.text_is; is_between = only_white; ending = inl refl }))
  where
    joined : (t w h i c b f m : List ℕ) → t ≡ w ++ h → h ≡ codes "<!--" ++ i → i ≡ c ++ b → b ≡ f ++ m → t ≡ (w ++ ((codes "<!--" ++ c) ++ f)) ++ m
    joined t w h i c b f m e1 e2 e3 e4 = rw (e1, e2, e3, e4) (simp append_assoc)

pub between_gives : (text : List ℕ) → Gives (between text) (λ rest. (front : List ℕ) × (text ≡ front ++ rest) × IsBetween front)
between_gives text = gives_as _ (between_or_gives unexpected (λ more rest. ⊥) (λ rest. gives_unexpected rest) (suc (length text)) text) (λ rest b. plain rest b.front b.mid b.text_is b.is_between b.ending)
  where
    plain : (rest front mid : List ℕ) → text ≡ front ++ mid → IsBetween front → (mid ≡ rest) ⊎ ((more : List ℕ) × (mid ≡ codes "<!" ++ more) × ⊥) → (f : List ℕ) × (text ≡ f ++ rest) × IsBetween f
    plain rest front mid e i (inl f) = (front, e ∙ ap (λ (t : List ℕ). front ++ t) f, i)
    plain rest front mid e i (inr (more, f, never)) = absurd never

pub record Named (text name rest : List ℕ) : Type 0 where
  pub text_is : text ≡ name ++ rest
  pub is_name : IsMarkupName name

pub name_gives : (text : List ℕ) → Gives (name_at text) (λ n. Named text n.0 n.1)
name_gives text =
    let n = prefix_len is_name_byte text in
    gives_if (eqb n (length text)) _ _ (λ e. gives_err _) (λ e. gives_if (eqb n 0) _ _ (λ z. gives_unexpected text) (λ z. gives_ok _ (record {
      text_is = sym (take-append-drop n text);
      is_name = (some_taken n text e z (prefix_len-le-length is_name_byte text), front_passes is_name_byte text);
    })))
