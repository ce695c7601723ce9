-- What happens to one link moves the core's state as its calls do.
use Rattle.std.proofs.Common.{◌≡◌, ◌≢◌, ◌+◌, ◌≤◌, suc, ℕ, Bool, true, false, ◌&&◌, ◌||◌, List, [], ◌∷◌, ◌++◌, Some, length, map, drop, refl, ap, sym, ◌∙◌, arith, length-append, zero-add}
use Rattle.std.specs.Prelude.{slice_get, ◌==◌}
use Rattle.std.proofs.lemmas.Bool.Decides.{nat_tests}
use Rattle.pipeline_core.specs.LinkAt.{LinkAt}
use Rattle.pipeline_core.specs.SegmentAt.{SegmentAt}
use Rattle.pipeline_core.specs.Links.{with_greeting, with_asked, without_oldest, with_end}
use Rattle.lists.specs.Edit.{edit_at}
use Rattle.pipeline_core.specs.Pipeline.{after_greeting, after_next, after_over, after_reply, with_outcome, server_on, server_of, with_links}
use Rattle.limits.specs.declared.TheConstants.{MOST_SERVERS}
use Rattle.fetch_trace.specs.Setting.{Setting}
use Rattle.fetch_trace.specs.Verdicts.{Verdict, is_accepted, outcome_by, outcome_of}
use Rattle.fetch_trace.specs.LinkNow.{LinkNow, link_at, is_over, is_ready, waiting_of, is_refused, some_arrival, some_absence}
use Rattle.fetch_trace.specs.Standing.{from_numbers, segment_at, pipeline_of, is_kept}
use Rattle.fetch_trace.proofs.Lists.{from-agree, from-edit, drop-append, drop-more, edit-nothing, edit-seen, get-seen}
use Rattle.fetch_trace.proofs.Truths.{or_none, and_none, or_all}
use Rattle.fetch_trace.proofs.Answered.{answered, answers-begun, answers-more, arrival-more, absence-more, segments-same}

-- a change that leaves the answers moves the links alone
pub moves_link : (setting : Setting) (links : List LinkNow) (i : ℕ) (l now : LinkNow) (g : LinkAt → LinkAt) → slice_get links i ≡ Some l → link_at now ≡ g (link_at l) → now.opening.server ≡ l.opening.server → ((test : Verdict → Bool) (segment : ℕ) → answered test segment now ≡ answered test segment l) → pipeline_of setting (edit_at i (λ old. now) links) ≡ with_links (pipeline_of setting links) (edit_at i g (map link_at links))
moves_link setting links i l now g is link own same =
    ap (λ (ls : List LinkAt). record { links = ls; segments = from_numbers (segment_at setting (edit_at i (λ old. now) links)) 0 (length setting.entries); levels = setting.levels; depth = setting.depth }) (edit-seen link_at links i l now g is link)
    ∙ ap (λ (ss : List SegmentAt). record { links = edit_at i g (map link_at links); segments = ss; levels = setting.levels; depth = setting.depth }) (segments-same setting links i (length setting.entries) l now is own same)

-- ---- nothing that the core sees

pub follows_nothing : (setting : Setting) (links : List LinkNow) (i : ℕ) (l now : LinkNow) → slice_get links i ≡ Some l → link_at now ≡ link_at l → now.opening.server ≡ l.opening.server → ((test : Verdict → Bool) (segment : ℕ) → answered test segment now ≡ answered test segment l) → pipeline_of setting (edit_at i (λ old. now) links) ≡ pipeline_of setting links
follows_nothing setting links i l now is link own same =
    moves_link setting links i l now (λ old. old) is link own same
    ∙ ap (λ (ls : List LinkAt). with_links (pipeline_of setting links) ls) (edit-nothing (map link_at links) i (λ old. old) (link_at l) (get-seen link_at links i l is) refl)

-- ---- a command is begun

pub follows_begun : (setting : Setting) (links : List LinkNow) (i k : ℕ) (l now : LinkNow) → slice_get links i ≡ Some l → is_over l ≡ false → is_over now ≡ false → is_ready now ≡ is_ready l → now.opening.server ≡ l.opening.server → now.asking.commands ≡ l.asking.commands ++ k ∷ [] → now.asking.verdicts ≡ l.asking.verdicts → length l.asking.verdicts ≤ length l.asking.commands → pipeline_of setting (edit_at i (λ old. now) links) ≡ after_next (pipeline_of setting links) i (Some k)
follows_begun setting links i k l now is live still ready own begun verdicts few =
    let waiting : waiting_of now.asking ≡ waiting_of l.asking ++ k ∷ [] = rw (begun, verdicts) (drop-append (length l.asking.verdicts) l.asking.commands (k ∷ []) few) in
    let link : link_at now ≡ with_asked k (link_at l) = rw (live, still, ready, own, waiting) refl in
    moves_link setting links i l now (with_asked k) is link own (λ test segment. rw (begun, verdicts) (answers-begun test segment k l.asking.commands l.asking.verdicts few))

-- ---- the link is over

pub follows_over : (setting : Setting) (links : List LinkNow) (i : ℕ) (l now : LinkNow) → slice_get links i ≡ Some l → is_over now ≡ true → is_ready now ≡ is_ready l → now.opening.server ≡ l.opening.server → ((test : Verdict → Bool) (segment : ℕ) → answered test segment now ≡ answered test segment l) → pipeline_of setting (edit_at i (λ old. now) links) ≡ after_over (pipeline_of setting links) i
follows_over setting links i l now is over ready own same =
    let link : link_at now ≡ with_end (link_at l) = rw (over, ready, own) refl in
    moves_link setting links i l now with_end is link own same

-- ---- the opening is whole

pub follows_greeting : (setting : Setting) (links : List LinkNow) (i : ℕ) (l now : LinkNow) → slice_get links i ≡ Some l → is_over now ≡ is_over l → is_ready now ≡ true → now.opening.server ≡ l.opening.server → waiting_of now.asking ≡ waiting_of l.asking → ((test : Verdict → Bool) (segment : ℕ) → answered test segment now ≡ answered test segment l) → pipeline_of setting (edit_at i (λ old. now) links) ≡ after_greeting (pipeline_of setting links) i
follows_greeting setting links i l now is over ready own waiting same =
    let link : link_at now ≡ with_greeting (link_at l) = rw (over, ready, own, waiting) refl in
    moves_link setting links i l now with_greeting is link own same

-- ---- an answer

-- a segment after one answer more
abbrev grown : Setting → List LinkNow → ℕ → ℕ → Verdict → ℕ → SegmentAt
grown setting links server k verdict segment = record {
  arrived = is_kept (slice_get setting.entries segment) || (some_arrival segment links || ((k == segment) && is_accepted verdict));
  answered = from_numbers (λ v. some_absence v segment links || ((server == v) && ((k == segment) && is_refused verdict))) 0 MOST_SERVERS;
}

grown_other : (setting : Setting) (links : List LinkNow) (server k : ℕ) (verdict : Verdict) (segment : ℕ) → segment ≢ k → grown setting links server k verdict segment ≡ segment_at setting links segment
grown_other setting links server k verdict segment other =
    let test : (k == segment) ≡ false = let differ : k ≢ segment = λ e. other (sym e) in grind (arith, nat_tests) in
    let arrived : (some_arrival segment links || ((k == segment) && is_accepted verdict)) ≡ some_arrival segment links = rw test (or_none (some_arrival segment links)) in
    let answered = from-agree (λ v. some_absence v segment links) (λ v. some_absence v segment links || ((server == v) && ((k == segment) && is_refused verdict))) 0 MOST_SERVERS
    (λ v. rw test (ap (λ b. some_absence v segment links || b) (and_none (server == v)) ∙ or_none (some_absence v segment links))) in
    ap (λ (a : Bool). record { arrived = is_kept (slice_get setting.entries segment) || a; answered = from_numbers (λ v. some_absence v segment links || ((server == v) && ((k == segment) && is_refused verdict))) 0 MOST_SERVERS }) arrived
    ∙ ap (λ (m : List Bool). record { arrived = is_kept (slice_get setting.entries segment) || some_arrival segment links; answered = m }) answered

kept_or_all : (kept arrival : Bool) → (kept || (arrival || true)) ≡ true
kept_or_all true arrival = refl
kept_or_all false arrival = or_all arrival

grown_here : (setting : Setting) (links : List LinkNow) (server k : ℕ) (verdict : Verdict) (b : Bool) → is_accepted verdict ≡ b → grown setting links server k verdict k ≡ with_outcome server (outcome_by b) (segment_at setting links k)
grown_here setting links server k verdict true is =
    let test : (k == k) ≡ true = grind (arith, nat_tests) in
    let arrived : (is_kept (slice_get setting.entries k) || (some_arrival k links || ((k == k) && is_accepted verdict))) ≡ true = rw (test, is) (kept_or_all (is_kept (slice_get setting.entries k)) (some_arrival k links)) in
    let answered = from-agree (λ v. some_absence v k links) (λ v. some_absence v k links || ((server == v) && ((k == k) && is_refused verdict))) 0 MOST_SERVERS
    (λ v. rw (test, is) (ap (λ t. some_absence v k links || t) (and_none (server == v)) ∙ or_none (some_absence v k links))) in
    ap (λ (a : Bool). record { arrived = a; answered = from_numbers (λ v. some_absence v k links || ((server == v) && ((k == k) && is_refused verdict))) 0 MOST_SERVERS }) arrived
    ∙ ap (λ (m : List Bool). record { arrived = true; answered = m }) answered
grown_here setting links server k verdict false is =
    let test : (k == k) ≡ true = grind (arith, nat_tests) in
    let arrived : (some_arrival k links || ((k == k) && is_accepted verdict)) ≡ some_arrival k links = rw (test, is) (or_none (some_arrival k links)) in
    let at : 0 + server ≡ server = zero-add server in
    let own : (server == (0 + server)) ≡ true = grind (arith, nat_tests) in
    let answered = from-edit (λ v. some_absence v k links) (λ v. some_absence v k links || ((server == v) && ((k == k) && is_refused verdict))) (λ old. true) server 0 MOST_SERVERS
    (λ v other. let apart : (server == v) ≡ false = let differ : server ≢ v = λ e. other (sym e ∙ sym at) in grind (arith, nat_tests) in rw apart (or_none (some_absence v k links)))
    (rw (own, test, is) (or_all (some_absence (0 + server) k links))) in
    ap (λ (a : Bool). record { arrived = is_kept (slice_get setting.entries k) || a; answered = from_numbers (λ v. some_absence v k links || ((server == v) && ((k == k) && is_refused verdict))) 0 MOST_SERVERS }) arrived
    ∙ ap (λ (m : List Bool). record { arrived = is_kept (slice_get setting.entries k) || some_arrival k links; answered = m }) answered

-- the oldest command that lacks its answer gets one
pub follows_reply : (setting : Setting) (links : List LinkNow) (i k : ℕ) (verdict : Verdict) (l now : LinkNow) → slice_get links i ≡ Some l → is_over l ≡ false → is_over now ≡ false → is_ready now ≡ is_ready l → now.opening.server ≡ l.opening.server → now.asking.commands ≡ l.asking.commands → now.asking.verdicts ≡ l.asking.verdicts ++ verdict ∷ [] → slice_get l.asking.commands (length l.asking.verdicts) ≡ Some k → pipeline_of setting (edit_at i (λ old. now) links) ≡ after_reply (pipeline_of setting links) i k (outcome_of verdict)
follows_reply setting links i k verdict l now is live still ready own commands verdicts oldest =
    let longer : length now.asking.verdicts ≡ suc (length l.asking.verdicts) = ap (λ (t : List Verdict). length t) verdicts ∙ length-append l.asking.verdicts (verdict ∷ []) ∙ (let e : length l.asking.verdicts + length (verdict ∷ []) ≡ suc (length l.asking.verdicts) = omega arith in e) in
    let waiting : waiting_of now.asking ≡ drop 1 (waiting_of l.asking) = rw (commands, longer) (drop-more (length l.asking.verdicts) l.asking.commands) in
    let link : link_at now ≡ without_oldest (link_at l) = rw (live, still, ready, own, waiting) refl in
    let server : server_on (pipeline_of setting links) i ≡ l.opening.server = ap server_of (get-seen link_at links i l is) in
    let grows : (test : Verdict → Bool) (segment : ℕ) → answered test segment now ≡ (answered test segment l || ((k == segment) && test verdict)) =
    λ test segment. rw (commands, verdicts) (answers-more test segment k verdict l.asking.commands l.asking.verdicts oldest) in
    let each : (segment : ℕ) → segment_at setting (edit_at i (λ old. now) links) segment ≡ grown setting links l.opening.server k verdict segment = λ segment.
    (let answered_now = from-agree (λ v. some_absence v segment links || ((l.opening.server == v) && ((k == segment) && is_refused verdict))) (λ v. some_absence v segment (edit_at i (λ old. now) links)) 0 MOST_SERVERS
    (λ v. absence-more v segment links i l now ((k == segment) && is_refused verdict) is own (grows is_refused segment)) in
    ap (λ (a : Bool). record { arrived = is_kept (slice_get setting.entries segment) || a; answered = from_numbers (λ v. some_absence v segment (edit_at i (λ old. now) links)) 0 MOST_SERVERS }) (arrival-more segment links i l now ((k == segment) && is_accepted verdict) is (grows is_accepted segment))
    ∙ ap (λ (m : List Bool). record { arrived = is_kept (slice_get setting.entries segment) || (some_arrival segment links || ((k == segment) && is_accepted verdict)); answered = m }) answered_now) in
    let at : 0 + k ≡ k = zero-add k in
    let segments : from_numbers (segment_at setting (edit_at i (λ old. now) links)) 0 (length setting.entries) ≡ edit_at k (with_outcome l.opening.server (outcome_of verdict)) (from_numbers (segment_at setting links) 0 (length setting.entries)) =
    from-edit (segment_at setting links) (segment_at setting (edit_at i (λ old. now) links)) (with_outcome l.opening.server (outcome_of verdict)) k 0 (length setting.entries)
    (λ segment other. each segment ∙ grown_other setting links l.opening.server k verdict segment (λ e. other (e ∙ sym at)))
    (ap (segment_at setting (edit_at i (λ old. now) links)) at ∙ each k ∙ grown_here setting links l.opening.server k verdict (is_accepted verdict) refl ∙ ap (λ n. with_outcome l.opening.server (outcome_of verdict) (segment_at setting links n)) (sym at)) in
    ap (λ (ls : List LinkAt). record { links = ls; segments = from_numbers (segment_at setting (edit_at i (λ old. now) links)) 0 (length setting.entries); levels = setting.levels; depth = setting.depth }) (edit-seen link_at links i l now without_oldest is link)
    ∙ ap (λ (ss : List SegmentAt). record { links = edit_at i without_oldest (map link_at links); segments = ss; levels = setting.levels; depth = setting.depth }) segments
    ∙ ap (λ (v : ℕ). record { links = edit_at i without_oldest (map link_at links); segments = edit_at k (with_outcome v (outcome_of verdict)) (from_numbers (segment_at setting links) 0 (length setting.entries)); levels = setting.levels; depth = setting.depth }) (sym server)
