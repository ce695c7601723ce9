-- A data line decoded where it stands: what is still to be read of it is as it was.
use Rattle.std.proofs.Common.{◌≡◌, ◌≤◌, ◌<◌, ℕ, zero, suc, ◌+◌, ◌-◌, false, List, [], ◌∷◌, ◌++◌, length, set, take, drop, get_or, refl, sym, ◌∙◌, ap, subst, arith, length-take, length-drop}
use Rattle.std.proofs.lemmas.List.{drop-drop, drop-set-lt, length-append, drop-take, get_or-take, get_or-drop}
use Rattle.landing_kernel.specs.Characters.{is_critical, lowered}
use Rattle.landing_kernel.specs.Landing.{Lands}
use Rattle.landing_kernel.specs.Lowering.{Lowers}
use Rattle.yenc_bytes.specs.declared.decoding.LineFault.{LineFault}
use Rattle.yenc_bytes.specs.DataLine.{NoSpelling, Spells, SpellsAll, column_of}
use Rattle.yenc_body.specs.declared.fault.Reason.{Reason}
use Rattle.yenc_body.specs.declared.fault.Reason.TheVariants.{TooMany}
use Rattle.yenc_body.specs.FirstFault.{PartDataFault}
use Rattle.yenc_body.specs.ReadBody.{reason_of}
use Rattle.yenc_body.proofs.DataFilling.{IsReadTo, IsReadTo-end, IsReadTo-fault, IsReadTo-full, IsReadTo-lowered, IsReadTo-put}
use Rattle.body_text.specs.DataPlaces.{IsDecoded, between}

small_take : (n : ℕ) (xs : List ℕ) → ((i : ℕ) → get_or xs i 0 < 256) → (i : ℕ) → get_or (take n xs) i 0 < 256
small_take zero xs h i = omega arith
small_take (suc n) [] h i = h i
small_take (suc n) (x ∷ xs) h zero = h 0
small_take (suc n) (x ∷ xs) h (suc i) = small_take n xs (λ k. h (suc k)) i

-- the characters of a line of bytes are bytes
pub small_between : (old : List ℕ) (start stop : ℕ) → ((i : ℕ) → get_or old i 0 < 256) → (i : ℕ) → get_or (between old start stop) i 0 < 256
small_between old start stop h =
    small_take (stop - start) (drop start old) (λ i. subst (λ (x : ℕ). x < 256) (sym (get_or-drop start old i 0)) (h (start + i)))

-- how many characters it has
pub long_between : (old : List ℕ) (start stop : ℕ) → start ≤ stop → stop ≤ length old → length (between old start stop) ≡ stop - start
long_between old start stop order within = omega (arith, length-take (stop - start) (drop start old), length-drop start old)

-- a character that is still to be read
same_there : (old buf : List ℕ) (start stop at k : ℕ) → drop at buf ≡ drop at old → start ≤ at → at + k < stop → get_or buf (at + k) 0 ≡ get_or (between old start stop) (at - start + k) 0
same_there old buf start stop at k rest begun less =
    let e : at + k ≡ start + (at - start + k) = omega arith in
    sym (get_or-drop at buf k 0) ∙ ap (λ (l : List ℕ). get_or l k 0) rest ∙ get_or-drop at old k 0 ∙ ap (λ n. get_or old n 0) e ∙ sym (get_or-drop start old (at - start + k) 0)
    ∙ sym (get_or-take (stop - start) (drop start old) (at - start + k) 0 (omega arith))

-- a run of characters was landed
pub read_landed : (old buf new : List ℕ) (start stop to put room at left n : ℕ) → ((i : ℕ) → get_or old i 0 < 256) →
    IsReadTo (between old start stop) (take to old) (take put buf) room (at - start) left → drop at buf ≡ drop at old → length new ≡ length buf → length buf ≡ length old → start ≤ at → stop ≤ length old → put ≤ at →
    Lands buf new at put n → ((k : ℕ) → k < n → is_critical (get_or buf (at + k) 0) ≡ false) → at + n ≤ stop → n ≤ left →
    IsReadTo (between old start stop) (take to old) (take (put + n) new) room (at + n - start) (left - n)
read_landed old buf new start stop to put room at left n small r rest new_long long begun within behind landed plain inside some =
    let line : List ℕ = between old start stop in
    let low : Lowers line buf new (at - start) put n = record {
      moved = λ k lt. landed.moved k lt ∙ ap lowered (same_there old buf start stop at k rest begun (omega arith));
      plain = λ k lt. ap is_critical (sym (same_there old buf start stop at k rest begun (omega arith))) ∙ plain k lt;
      below = landed.below;
      long = new_long;
    } in
    let e : at - start + n ≡ at + n - start = omega arith in
    subst (λ (k : ℕ). IsReadTo line (take to old) (take (put + n) new) room k (left - n)) e
    (IsReadTo-lowered line (take to old) [] buf new room (at - start) left put n (small_between old start stop small) r low (omega (arith, long_between old start stop (omega arith) within)) some (omega (arith, new_long, long)))

-- what is left of a line from a place on
left_of : (xs : List ℕ) (start stop at : ℕ) → start ≤ at → at ≤ stop → drop (at - start) (between xs start stop) ≡ take (stop - at) (drop at xs)
left_of xs start stop at begun inside =
    let e : stop - start ≡ at - start + (stop - at) = omega arith in
    let f : start + (at - start) ≡ at = omega arith in
    ap (λ n. drop (at - start) (take n (drop start xs))) e ∙ drop-take (at - start) (stop - at) (drop start xs)
    ∙ ap (take (stop - at)) (drop-drop (at - start) start xs ∙ ap (λ n. drop n xs) f)

-- it is as it was
pub left_there : (old buf : List ℕ) (start stop at : ℕ) → drop at buf ≡ drop at old → start ≤ at → at ≤ stop → drop (at - start) (between buf start stop) ≡ drop (at - start) (between old start stop)
left_there old buf start stop at rest begun inside =
    left_of buf start stop at begun inside ∙ ap (take (stop - at)) rest ∙ sym (left_of old start stop at begun inside)

-- what agrees from a place on, from a place further on
pub further : (old new : List ℕ) (at n : ℕ) → drop at new ≡ drop at old → drop (at + n) new ≡ drop (at + n) old
further old new at n rest = sym (drop-drop n at new) ∙ ap (drop n) rest ∙ drop-drop n at old

-- what the landing of a run leaves behind it
same_behind : (n : ℕ) (xs ys : List ℕ) → length xs ≡ length ys → ((k : ℕ) → n ≤ k → get_or xs k 0 ≡ get_or ys k 0) → drop n xs ≡ drop n ys
same_behind zero [] [] long each = refl
same_behind zero [] (y ∷ ys) long each = absurd (omega (arith, long))
same_behind zero (x ∷ xs) [] long each = absurd (omega (arith, long))
same_behind zero (x ∷ xs) (y ∷ ys) long each = (λ t. each 0 (omega arith) t ∷ same_behind zero xs ys (omega (arith, long)) (λ k le. each (suc k) (omega arith)) t)
same_behind (suc n) [] [] long each = refl
same_behind (suc n) [] (y ∷ ys) long each = absurd (omega (arith, long))
same_behind (suc n) (x ∷ xs) [] long each = absurd (omega (arith, long))
same_behind (suc n) (x ∷ xs) (y ∷ ys) long each = same_behind n xs ys (omega (arith, long)) (λ k le. each (suc k) (omega arith))

pub rest_landed : (old buf new : List ℕ) (at to n : ℕ) → drop at buf ≡ drop at old → length new ≡ length buf → Lands buf new at to n → to ≤ at → drop (at + n) new ≡ drop (at + n) old
rest_landed old buf new at to n rest long landed behind =
    same_behind (at + n) new buf long (λ k le. landed.above k (omega arith)) ∙ further old buf at n rest

-- one more spelling was read, its byte put behind those before it
pub read_put : (old buf : List ℕ) (start stop to put room at left b width : ℕ) → IsReadTo (between old start stop) (take to old) (take put buf) room (at - start) left →
    drop at buf ≡ drop at old → length buf ≡ length old → start ≤ at → at < stop → stop ≤ length old → put ≤ at → Spells b (take width (drop (at - start) (between buf start stop))) →
    at - start + width ≤ stop - start → 1 ≤ left → IsReadTo (between old start stop) (take to old) (take (put + 1) (set buf put b)) room (at + width - start) (left - 1)
read_put old buf start stop to put room at left b width r rest long begun inside within behind s fits some =
    let line : List ℕ = between old start stop in
    let e : at - start + width ≡ at + width - start = omega arith in
    let spelled : Spells b (take width (drop (at - start) line)) = subst (λ (t : List ℕ). Spells b (take width t)) (left_there old buf start stop at rest begun (omega arith)) s in
    subst (λ (k : ℕ). IsReadTo line (take to old) (take (put + 1) (set buf put b)) room k (left - 1)) e
    (IsReadTo-put line (take to old) [] buf room (at - start) left put b width r spelled (omega (arith, long_between old start stop (omega arith) within)) some (omega (arith, long)))

-- no spelling stands at a place
pub refused_there : (old buf : List ℕ) (start stop to put room at left : ℕ) (fault : LineFault) → IsReadTo (between old start stop) (take to old) (take put buf) room (at - start) left →
    drop at buf ≡ drop at old → start ≤ at → at ≤ stop → NoSpelling (at - start) (drop (at - start) (between buf start stop)) fault →
    (column : ℕ) (reason : Reason) → column ≡ column_of fault → reason ≡ reason_of fault → PartDataFault room (between old start stop) column reason
refused_there old buf start stop to put room at left fault r rest begun inside none column reason at_column for_reason =
    let line : List ℕ = between old start stop in
    let there : NoSpelling (at - start) (drop (at - start) line) fault = subst (λ (t : List ℕ). NoSpelling (at - start) t fault) (left_there old buf start stop at rest begun inside) none in
    rw (at_column, for_reason) (IsReadTo-fault line (take to old) (take put buf) room (at - start) left fault r there)

-- no room is left for the byte that is spelled there
pub full_there : (old buf : List ℕ) (start stop to put room at left b width : ℕ) → IsReadTo (between old start stop) (take to old) (take put buf) room (at - start) left →
    drop at buf ≡ drop at old → start ≤ at → at ≤ stop → Spells b (take width (drop (at - start) (between buf start stop))) → left ≡ 0 → PartDataFault room (between old start stop) (at - start + 1) TooMany
full_there old buf start stop to put room at left b width r rest begun inside s none =
    let line : List ℕ = between old start stop in
    let spelled : Spells b (take width (drop (at - start) line)) = subst (λ (t : List ℕ). Spells b (take width t)) (left_there old buf start stop at rest begun inside) s in
    IsReadTo-full line (take to old) (take put buf) room (at - start) left b width r spelled none

-- what a byte that was put leaves behind it
pub rest_put : (old buf : List ℕ) (at put b width : ℕ) → drop at buf ≡ drop at old → put ≤ at → 1 ≤ width → drop (at + width) (set buf put b) ≡ drop (at + width) old
rest_put old buf at put b width rest behind some = drop-set-lt (at + width) buf put b (omega arith) ∙ further old buf at width rest

-- the whole line was decoded
pub decoded : (old buf : List ℕ) (start stop to put room at left : ℕ) → IsReadTo (between old start stop) (take to old) (take put buf) room (at - start) left → drop at buf ≡ drop at old →
    length buf ≡ length old → start ≤ stop → at ≡ stop → stop ≤ length old → put ≤ at → to ≤ put → IsDecoded old buf start stop to room (put - to)
decoded old buf start stop to put room at left r rest long order here within behind ahead =
    go (IsReadTo-end (between old start stop) (take to old) (take put buf) room (at - start) left r (omega (arith, here, long_between old start stop order within)))
  where
    go : (more : List ℕ) × SpellsAll more (between old start stop) × (length more ≤ room) × (take put buf ≡ take to old ++ more) → IsDecoded old buf start stop to room (put - to)
    go (more, spelled, most, put_is) =
        let e : to + (put - to) ≡ put = omega arith in
        let count : length more ≡ put - to = omega (arith, ap length put_is, length-append (take to old) more, length-take put buf, length-take to old, long, here) in record {
          bytes = more;
          spelled = spelled;
          count_is = count;
          room_is = omega (arith, count, most);
          put = ap (λ n. take n buf) e ∙ put_is;
          inside = omega (arith, here);
          rest = subst (λ (n : ℕ). drop n buf ≡ drop n old) here rest;
          long = long;
        }
