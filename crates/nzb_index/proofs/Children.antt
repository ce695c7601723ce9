-- What stands between the tags of an element, over a slice.
use Rattle.std.proofs.Common.{◌≡◌, ℕ, zero, suc, ◌+◌, ◌-◌, ◌<◌, ◌≤◌, Bool, true, false, cond, List, [], length, take, drop, None, Result, Ok, Err, refl, ap, subst, ◌∙◌, arith}
use Rattle.std.specs.Prelude.{codes, nat_eq}
use Rattle.std.specs.List.{starts_with}
use Rattle.std.proofs.lemmas.List.{length-drop}
use Rattle.nzb_index.specs.declared.error.NzbError.{NzbError}
use Rattle.nzb_index.specs.MarkupReading.{Stop, ValueRead, unexpected, word, name_at, between, end_tag, children, parent, ◌>>=◌}
use Rattle.nzb_index.specs.Readers.{Fails, ReadsValue, unexpected_at}
use Rattle.nzb_index.specs.Elements.{Next, ended, opened, next_at, ReadsNext, bare}
use Rattle.nzb_index.specs.declared.elements.Child.{Child}
use Rattle.nzb_index.specs.declared.elements.Child.TheVariants as child
use Rattle.nzb_index.proofs.Words.{word_found}
use Rattle.nzb_index.proofs.Places.{over, unexpected_fails}
use Rattle.nzb_index.proofs.Betweens.{fails_as, fails_then}

-- ---- what stands next

pub next_ended : (name text : List ℕ) (at mid end : ℕ) → between (drop at text) ≡ Ok (drop mid text) → starts_with nat_eq (drop mid text) (codes "</") ≡ true → end_tag name None (drop mid text) ≡ Ok (drop end text) → next_at name (drop at text) ≡ Ok (ended (drop end text))
next_ended name text at mid end b s e = rw b (rw s (rw e refl))

pub next_opened : (name text : List ℕ) (at mid inside end : ℕ) → at ≤ mid → mid ≤ length text → between (drop at text) ≡ Ok (drop mid text) → starts_with nat_eq (drop mid text) (codes "</") ≡ false → inside ≤ length text → word (codes "<") (drop mid text) ≡ Ok (drop inside text) →
    inside < end → end ≤ length text → name_at (drop inside text) ≡ Ok (take (end - inside) (drop inside text), drop end text) →
    (at ≤ mid) × (mid + 1 < end) × (end ≤ length text) × (next_at name (drop at text) ≡ Ok (opened (take (end - (mid + 1)) (drop (mid + 1) text)) (drop mid text) (drop end text)))
next_opened name text at mid inside end l m b s n w o q h =
    let one : inside ≡ mid + 1 = let front = word_found (codes "<") (drop mid text) (drop inside text) w in omega (arith, ap length front, length-drop mid text, length-drop inside text, m, n) in
    (l, omega (arith, o, one), q, rw b (rw s (rw w (rw h (rw one refl)))))

-- ---- one more

-- an element's content goes on with what stands next
step : {S : Type 0} (item : S → List ℕ → List ℕ → List ℕ → ValueRead S) (name : List ℕ) (fuel : ℕ) (state : S) → Next → ValueRead S
step item name fuel state (ended behind) = Ok (state, behind)
step item name fuel state (opened n from rest) = item state n from rest >>= λ s. children item name fuel s.0 s.1

children_step : {S : Type 0} (item : S → List ℕ → List ℕ → List ℕ → ValueRead S) (name : List ℕ) (fuel : ℕ) (state : S) (rest : List ℕ) → children item name (suc fuel) state rest ≡ (next_at name rest >>= step item name fuel state)
unfolding step
children_step {S} item name fuel state rest = from_between (between rest)
  where
    from_name : (mid : List ℕ) (r : Result (List ℕ × List ℕ) Stop) → (r >>= λ n. item state n.0 mid n.1 >>= λ s. children item name fuel s.0 s.1) ≡ ((r >>= λ n. Ok (opened n.0 mid n.1)) >>= step item name fuel state)
    from_name mid (Ok n) = refl
    from_name mid (Err e) = refl

    from_word : (mid : List ℕ) (r : Result (List ℕ) Stop) → (r >>= λ inside. name_at inside >>= λ n. item state n.0 mid n.1 >>= λ s. children item name fuel s.0 s.1) ≡ ((r >>= λ inside. name_at inside >>= λ n. Ok (opened n.0 mid n.1)) >>= step item name fuel state)
    from_word mid (Ok inside) = from_name mid (name_at inside)
    from_word mid (Err e) = refl

    from_end : (r : Result (List ℕ) Stop) → (r >>= λ behind. Ok (state, behind)) ≡ ((r >>= λ behind. Ok (ended behind)) >>= step item name fuel state)
    from_end (Ok behind) = refl
    from_end (Err e) = refl

    from_test : (mid : List ℕ) (b : Bool) →
        cond b (end_tag name None mid >>= λ behind. Ok (state, behind)) (word (codes "<") mid >>= λ inside. name_at inside >>= λ n. item state n.0 mid n.1 >>= λ s. children item name fuel s.0 s.1)
        ≡ (cond b (end_tag name None mid >>= λ behind. Ok (ended behind)) (word (codes "<") mid >>= λ inside. name_at inside >>= λ n. Ok (opened n.0 mid n.1)) >>= step item name fuel state)
    from_test mid true = from_end (end_tag name None mid)
    from_test mid false = from_word mid (word (codes "<") mid)

    from_between : (r : Result (List ℕ) Stop) →
        (r >>= λ mid. cond (starts_with nat_eq mid (codes "</")) (end_tag name None mid >>= λ behind. Ok (state, behind)) (word (codes "<") mid >>= λ inside. name_at inside >>= λ n. item state n.0 mid n.1 >>= λ s. children item name fuel s.0 s.1))
        ≡ ((r >>= λ mid. cond (starts_with nat_eq mid (codes "</")) (end_tag name None mid >>= λ behind. Ok (ended behind)) (word (codes "<") mid >>= λ inside. name_at inside >>= λ n. Ok (opened n.0 mid n.1))) >>= step item name fuel state)
    from_between (Ok mid) = from_test mid (starts_with nat_eq mid (codes "</"))
    from_between (Err e) = refl

-- ---- from child to child

-- the children up to a place are read
pub record StillChildren {S : Type 0} (item : S → List ℕ → List ℕ → List ℕ → ValueRead S) (name text : List ℕ) (at end : ℕ) (start state : S) : Type 0 where
  pub behind : at ≤ end
  pub within : end ≤ length text
  pub left : ℕ
  pub fits : length (drop end text) ≤ left
  pub reads : children item name (length (drop at text)) start (drop at text) ≡ children item name left state (drop end text)

pub children_start : {S : Type 0} (item : S → List ℕ → List ℕ → List ℕ → ValueRead S) (name text : List ℕ) (at : ℕ) (state : S) → at ≤ length text → StillChildren item name text at at state state
children_start {S} item name text at state l = record { behind = omega arith; within = l; left = length (drop at text); fits = omega arith; reads = refl }

pub children_over : {S : Type 0} (item : S → List ℕ → List ℕ → List ℕ → ValueRead S) (name text : List ℕ) (at end : ℕ) (start state : S) → StillChildren item name text at end start state → length text ≤ end →
    Fails text (unexpected_at text end) (children item name (length (drop at text)) start (drop at text))
children_over {S} item name text at end start state s l = unexpected_fails text end (children item name (length (drop at text)) start (drop at text)) s.within (s.reads ∙ rw (over text end l) (nothing s.left))
  where
    nothing : (left : ℕ) → children item name left state [] ≡ unexpected []
    nothing zero = refl
    nothing (suc left) = refl

-- with a byte there, some fuel is there
record More {S : Type 0} (item : S → List ℕ → List ℕ → List ℕ → ValueRead S) (name text : List ℕ) (at end : ℕ) (start state : S) : Type 0 where
  less : ℕ
  fits : length (drop end text) ≤ suc less
  reads : children item name (length (drop at text)) start (drop at text) ≡ (next_at name (drop end text) >>= step item name less state)

more : {S : Type 0} (item : S → List ℕ → List ℕ → List ℕ → ValueRead S) (name text : List ℕ) (at end : ℕ) (start state : S) → StillChildren item name text at end start state → end < length text → More item name text at end start state
more {S} item name text at end start state s l = go s.left s.fits s.reads
  where
    go : (left : ℕ) → length (drop end text) ≤ left → children item name (length (drop at text)) start (drop at text) ≡ children item name left state (drop end text) → More item name text at end start state
    go zero fits e = absurd (omega (arith, length-drop end text, l, fits))
    go (suc left) fits e = record { less = left; fits = fits; reads = e ∙ children_step item name left state (drop end text) }

pub children_fail : {S : Type 0} (item : S → List ℕ → List ℕ → List ℕ → ValueRead S) (name text : List ℕ) (at end : ℕ) (start state : S) (e : NzbError) → StillChildren item name text at end start state → end < length text → Fails text e (next_at name (drop end text)) →
    Fails text e (children item name (length (drop at text)) start (drop at text))
children_fail {S} item name text at end start state e s l h = let m = more item name text at end start state s l in fails_as text e _ _ m.reads (fails_then text e (next_at name (drop end text)) (step item name m.less state) h)

pub children_end : {S : Type 0} (item : S → List ℕ → List ℕ → List ℕ → ValueRead S) (name text : List ℕ) (at end : ℕ) (start state : S) (rest : List ℕ) → StillChildren item name text at end start state → end < length text → next_at name (drop end text) ≡ Ok (ended rest) →
    children item name (length (drop at text)) start (drop at text) ≡ Ok (state, rest)
unfolding step
children_end {S} item name text at end start state rest s l h = let m = more item name text at end start state s l in m.reads ∙ rw h refl

pub child_fails : {S : Type 0} (item : S → List ℕ → List ℕ → List ℕ → ValueRead S) (name text : List ℕ) (at end : ℕ) (start state : S) (n from rest : List ℕ) (e : NzbError) → StillChildren item name text at end start state → end < length text → next_at name (drop end text) ≡ Ok (opened n from rest) →
    Fails text e (item state n from rest) → Fails text e (children item name (length (drop at text)) start (drop at text))
unfolding step
child_fails {S} item name text at end start state n from rest e s l h f = let m = more item name text at end start state s l in fails_as text e _ _ (m.reads ∙ rw h refl) (fails_then text e (item state n from rest) (λ s. children item name m.less s.0 s.1) f)

pub child_goes : {S : Type 0} (item : S → List ℕ → List ℕ → List ℕ → ValueRead S) (name text : List ℕ) (at end last : ℕ) (start state new : S) (n from rest : List ℕ) → StillChildren item name text at end start state → end < length text → next_at name (drop end text) ≡ Ok (opened n from rest) →
    end < last → last ≤ length text → item state n from rest ≡ Ok (new, drop last text) → StillChildren item name text at last start new
unfolding step
child_goes {S} item name text at end last start state new n from rest s l h a b i =
    let m = more item name text at end start state s l in
    record {
      behind = let behind = s.behind in omega (arith, behind, a);
      within = b;
      left = m.less;
      fits = let fits = m.fits in omega (arith, fits, length-drop end text, length-drop last text, a, b);
      reads = m.reads ∙ rw h (rw i refl);
    }

-- ---- the whole content

pub parent_open : {S : Type 0} (item : S → List ℕ → List ℕ → List ℕ → ValueRead S) (name rest : List ℕ) (state : S) (closed : Bool) → closed ≡ false → parent item name (bare closed) state rest ≡ children item name (length rest) state rest
parent_open {S} item name rest state closed e = rw e refl

pub parent_over : {S : Type 0} (item : S → List ℕ → List ℕ → List ℕ → ValueRead S) (name text : List ℕ) (at end : ℕ) (start state : S) (closed : Bool) → closed ≡ false → StillChildren item name text at end start state → length text ≤ end →
    Fails text (unexpected_at text end) (parent item name (bare closed) start (drop at text))
parent_over {S} item name text at end start state closed c s l = fails_as text (unexpected_at text end) _ _ (parent_open item name (drop at text) start closed c) (children_over item name text at end start state s l)

pub parent_fails : {S : Type 0} (item : S → List ℕ → List ℕ → List ℕ → ValueRead S) (name text : List ℕ) (at end : ℕ) (start state : S) (closed : Bool) (e : NzbError) → closed ≡ false → StillChildren item name text at end start state → end < length text →
    Fails text e (next_at name (drop end text)) → Fails text e (parent item name (bare closed) start (drop at text))
parent_fails {S} item name text at end start state closed e c s l h = fails_as text e _ _ (parent_open item name (drop at text) start closed c) (children_fail item name text at end start state e s l h)

pub parent_ends : {S : Type 0} (item : S → List ℕ → List ℕ → List ℕ → ValueRead S) (name text : List ℕ) (at end last : ℕ) (start state : S) (closed : Bool) (found : Child) → closed ≡ false → StillChildren item name text at end start state → end < length text →
    found ≡ child.Ended last → ReadsNext text end (Ok found) (next_at name (drop end text)) → ReadsValue text at state (Ok last) (parent item name (bare closed) start (drop at text))
parent_ends {S} item name text at end last start state closed found c s l is h =
    let r : ReadsNext text end (Ok (child.Ended last)) (next_at name (drop end text)) = subst (λ (x : Child). ReadsNext text end (Ok x) (next_at name (drop end text))) is h in
    let behind = s.behind in
    (omega (arith, behind, r.0), r.1, parent_open item name (drop at text) start closed c ∙ children_end item name text at end start state (drop last text) s l r.2)

opened_here : (name text : List ℕ) (end from behind : ℕ) (found : Child) → found ≡ child.Opened from behind → ReadsNext text end (Ok found) (next_at name (drop end text)) →
    (end ≤ from) × (from + 1 < behind) × (behind ≤ length text) × (next_at name (drop end text) ≡ Ok (opened (take (behind - (from + 1)) (drop (from + 1) text)) (drop from text) (drop behind text)))
opened_here name text end from behind found is h = subst (λ (x : Child). ReadsNext text end (Ok x) (next_at name (drop end text))) is h

pub parent_item_fails : {S : Type 0} (item : S → List ℕ → List ℕ → List ℕ → ValueRead S) (name text : List ℕ) (at end from behind : ℕ) (start state : S) (closed : Bool) (found : Child) (e : NzbError) → closed ≡ false → StillChildren item name text at end start state → end < length text →
    found ≡ child.Opened from behind → ReadsNext text end (Ok found) (next_at name (drop end text)) → Fails text e (item state (take (behind - (from + 1)) (drop (from + 1) text)) (drop from text) (drop behind text)) →
    Fails text e (parent item name (bare closed) start (drop at text))
parent_item_fails {S} item name text at end from behind start state closed found e c s l is h f =
    let r = opened_here name text end from behind found is h in
    fails_as text e _ _ (parent_open item name (drop at text) start closed c) (child_fails item name text at end start state _ (drop from text) (drop behind text) e s l r.3 f)

pub parent_item_goes : {S : Type 0} (item : S → List ℕ → List ℕ → List ℕ → ValueRead S) (name text : List ℕ) (at end from behind last : ℕ) (start state new : S) (found : Child) → StillChildren item name text at end start state → end < length text →
    found ≡ child.Opened from behind → ReadsNext text end (Ok found) (next_at name (drop end text)) → behind ≤ last → last ≤ length text → item state (take (behind - (from + 1)) (drop (from + 1) text)) (drop from text) (drop behind text) ≡ Ok (new, drop last text) →
    (end < last) × StillChildren item name text at last start new
parent_item_goes {S} item name text at end from behind last start state new found s l is h a b i =
    let r = opened_here name text end from behind found is h in
    (omega (arith, r.0, r.1, a), child_goes item name text at end last start state new _ (drop from text) (drop behind text) s l r.3 (omega (arith, r.0, r.1, a)) b i)
