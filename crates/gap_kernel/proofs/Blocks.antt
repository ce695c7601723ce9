-- A block with one escape in it, and the bytes that it is stored as.
use Rattle.std.proofs.Common.{◌≡◌, ◌≢◌, ℕ, suc, ◌+◌, ◌%◌, ◌<◌, ◌≤◌, inl, inr, List, length, get_or, sym, ap, subst, ◌∙◌, arith}
use Rattle.std.specs.Simd.Lanes.{put_chunk, chunk}
use Rattle.std.proofs.lemmas.Simd.{length-chunk, get_or-chunk, get_or-put_chunk_below, get_or-put_chunk_at, get_or-put_chunk_above, length-put_chunk}
use Rattle.std.proofs.lemmas.Bool.{cases_eq, lt-ltb, le-ltb, eq-eqb, ne_eqb, cond-true, cond-false}
use Rattle.landing_kernel.specs.Characters.{lowered}
use Rattle.gap_kernel.specs.Landing.{LandsSpellings}
use Rattle.gap_kernel.specs.Blocks.{HasOneEscape, byte_at}
use Rattle.gap_kernel.proofs.Spellings.{IsPlainByte, plain_spelled, escape_spelled}

byte_before : (gap i x y : ℕ) → i < gap → byte_at gap i x y ≡ lowered x
byte_before gap i x y lt = cond-true _ _ _ (lt-ltb i gap lt)

byte_there : (gap x y : ℕ) → byte_at gap gap x y ≡ (y + 150) % 256
byte_there gap x y = cond-false _ _ _ (le-ltb gap gap (omega arith)) ∙ cond-true _ _ _ (eq-eqb gap gap (omega arith))

byte_behind : (gap i x y : ℕ) → gap < i → byte_at gap i x y ≡ lowered y
byte_behind gap i x y lt = cond-false _ _ _ (le-ltb i gap (omega arith)) ∙ cond-false _ _ _ (ne_eqb i gap (λ e. omega arith))

module _ (old ys : List ℕ) (from to gap : ℕ) (order : to ≤ from) (room : from + 32 < length old) (bytes : (i : ℕ) → get_or old i 0 < 256) (long : length ys ≡ 32)
    (each : (i : ℕ) → i < 32 → get_or ys i 0 ≡ byte_at gap i (get_or (chunk from 32 old) i 0) (get_or (chunk (from + 1) 32 old) i 0)) (one : HasOneEscape (chunk from 32 old) gap) where
  abbrev pub new : List ℕ
  new = put_chunk to old ys

  abbrev xs : List ℕ
  xs = chunk from 32 old

  xs_long : length xs ≡ 32
  xs_long = length-chunk from 32 old (omega arith)

  new_long : length new ≡ length old
  new_long = length-put_chunk to old ys

  part_long : (n : ℕ) → n ≤ 32 → length (chunk to n new) ≡ n
  part_long n le = length-chunk to n new (omega (arith, new_long))

  at : (n i : ℕ) → n ≤ 32 → i < n → get_or (chunk to n new) i 0 ≡ get_or ys i 0
  at n i le lt = get_or-chunk to n new i 0 lt ∙ get_or-put_chunk_at to old ys i 0 (omega (arith, long)) (omega (arith, long))

  next_is : (i : ℕ) → suc i < 32 → get_or (chunk (from + 1) 32 old) i 0 ≡ get_or xs (suc i) 0
  next_is i lt = get_or-chunk (from + 1) 32 old i 0 (omega arith) ∙ ap (λ k. get_or old k 0) (omega arith) ∙ sym (get_or-chunk from 32 old (suc i) 0 lt)

  plain : (i : ℕ) → i < 32 → i ≢ gap → IsPlainByte (get_or xs i 0)
  plain i lt ne = record {
    byte = subst (λ x. x < 256) (sym (get_or-chunk from 32 old i 0 lt)) (bytes (from + i));
    stray_not = one.plain i lt;
    escape_not = one.other i lt ne;
  }

  below : (k : ℕ) → k < to → get_or new k 0 ≡ get_or old k 0
  below k lt = get_or-put_chunk_below to old ys k 0 lt

  above : (k : ℕ) → from + 32 ≤ k → get_or new k 0 ≡ get_or old k 0
  above k le = get_or-put_chunk_above to old ys k 0 (omega (arith, long))

  -- with no escape
  pub lands_whole : gap ≡ 32 → LandsSpellings old new from to 32 32
  lands_whole none = record {
    spelled = plain_spelled xs (chunk to 32 new) (omega (arith, xs_long, part_long 32 (omega arith)))
        (λ i lt. plain i (omega (arith, xs_long)) (λ e. omega (arith, xs_long, none)))
        (λ i lt. let less : i < 32 = omega (arith, xs_long) in at 32 i (omega arith) less ∙ each i less ∙ byte_before gap i _ _ (omega (arith, none)));
    below = below;
    above = above;
    long = new_long;
  }

  -- with one
  pub lands_escape : gap ≢ 32 → LandsSpellings old new from to 32 31
  lands_escape some =
      let within : gap < 31 = (let w = one.within in elim (cases_eq gap 31) [ inl e ↦ absurd (w.1 e) | inr ne ↦ elim (cases_eq gap 32) [ inl e ↦ absurd (some e) | inr other ↦ omega (arith, w.0) ] ]) in
      record {
        spelled = escape_spelled gap xs (chunk to 31 new) (omega (arith, xs_long)) (omega (arith, xs_long, part_long 31 (omega arith)))
            (one.escape (omega arith))
            (λ i lt ne. plain i (omega (arith, xs_long)) ne)
            (λ i lt. at 31 i (omega arith) (omega arith) ∙ each i (omega arith) ∙ byte_before gap i _ _ lt)
            (at 31 gap (omega arith) within ∙ each gap (omega arith) ∙ byte_there gap _ _ ∙ ap (λ y. (y + 150) % 256) (next_is gap (omega arith)))
            (λ i more lt. let less : i < 31 = omega (arith, part_long 31 (omega arith)) in at 31 i (omega arith) less ∙ each i (omega arith) ∙ byte_behind gap i _ _ more ∙ ap lowered (next_is i (omega arith)));
        below = below;
        above = above;
        long = new_long;
      }
