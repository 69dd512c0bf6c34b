-- Runs: the log kept is the protocol's own run.
use Rattle.std.proofs.Common.{◌≡◌, ℕ, ◌≤◌, Bool, true, refl, sym, ap, subst, ◌∙◌, List, [], ◌∷◌, ◌++◌, append_assoc, append-nil, arith, length, length-append}
use Rattle.std.specs.Prelude.{Option, Some, None, ◌&&◌, is_none, if◌then◌else◌}
use Rattle.std.proofs.lemmas.Bool.{and_from, and_parts, eqb-true, false≢true}
use Rattle.plain_lemmas.proofs.Options.{none_of}
use Rattle.definitions.specs.declared.world.Move.{Move}
use Rattle.definitions.specs.declared.openings.Nonce.{Nonce}
use Rattle.definitions.specs.declared.frames.TurnFrame.{TurnFrame}
use Rattle.definitions.specs.declared.logs.Entry.{Entry}
use Rattle.definitions.specs.declared.logs.Entry.TheVariants.{Chose, Made, Got}
use Rattle.definitions.specs.World.{Game}
use Rattle.definitions.specs.Logs.{chosen}
use Rattle.definitions.specs.Findings.{is_clean}
use Rattle.definitions.specs.Answers.{is_new, is_of_another}
use Rattle.definitions.specs.Honest.{IsHonest, allowed, allows, allows_choice}
use Rattle.definitions.specs.Needs.{may_choose}
use Rattle.definitions.specs.Advance.{advance, next_made}
use Rattle.definitions.specs.Steps.{LogStep, Chooses, Comes, after_choice, after_got, is_taken_in, log_after, log_run}
use Rattle.definition_laws.proofs.Alike.{frame_eq_true}
use Rattle.definition_laws.proofs.ForPeers.{advance_step, advance_still}
use Rattle.definition_laws.proofs.Waits.{may_choose_allowed}
use Rattle.socket_station.specs.declared.answers.Addr.{Addr}
use Rattle.socket_station.specs.Items.{Item, ListenCall, LogCall, DialCall, PollCall, ReadCall, WriteCall, KeepCall, SyncCall, Listening, LogBegun, Dialled, Polled, Took, Gave, ReadNotYet, WriteNotYet, Ended, Failed, Shut, Kept, Synced}
use Rattle.peer_rules.specs.declared.phases.Phase.{Phase}
use Rattle.peer_rules.specs.declared.phases.Phase.TheVariants.{Fresh, Logged, Running, KeepFault, PollFault}
use Rattle.loop_rules.specs.Settings.{Setting}
use Rattle.loop_rules.specs.Views.{View, start}
use Rattle.loop_rules.specs.Keeping.{is_next, may_keep_in, may_keep_as, own_next, with_entry, kept_entry}
use Rattle.peer_rules.specs.Entries.{entry_in}
use Rattle.peer_rules.specs.Order.{is_frame}
use Rattle.loop_rules.specs.After.{after, view_after}
use Rattle.loop_rules.specs.Rules.{is_allowed}
use Rattle.loop_rules.specs.Histories.{are_allowed}
use Rattle.loop_rules.specs.Runs.{GoesAsRun, LogsAreRuns}
use Rattle.peer_rules.specs.Steps.{steps_told}
use Rattle.loop_rules.proofs.Fair.{Fair, fair_entry, fair_first, fair_item}
use Rattle.peer_rules.specs.Phases.{is_early}
use Rattle.loop_rules.proofs.Kept.{Keeps, keeps_sorted, keeps_took}

-- ---- one more entry

told_more : (es fs : List Entry) → steps_told (es ++ fs) ≡ steps_told es ++ steps_told fs
told_more [] fs = refl
told_more (Chose t m n ∷ es) fs = ap (λ (x : List LogStep). Chooses m n ∷ x) (told_more es fs)
told_more (Made f ∷ es) fs = told_more es fs
told_more (Got q f ∷ es) fs = ap (λ (x : List LogStep). Comes q f ∷ x) (told_more es fs)

run_more : (game : Game) (me : ℕ) (h : List Entry) (ss more : List LogStep) → log_run game me h (ss ++ more) ≡ log_run game me (log_run game me h ss) more
run_more game me h [] more = refl
run_more game me h (s ∷ ss) more = run_more game me (log_after game me h s) ss more

frame_is : (o : Option TurnFrame) (f : TurnFrame) → is_frame o f ≡ true → o ≡ Some f
frame_is None f e = absurd (false≢true e)
frame_is (Some g) f e = ap (λ (x : TurnFrame). Some x) (frame_eq_true g f e)

-- a choice that may come next is a step that changes the log
choice_taken : (game : Game) (me t : ℕ) (h : List Entry) (m : Move) (n : Nonce) → 1 ≤ game.ahead → IsHonest game me h → allowed game me h (Chose t m n) ≡ true →
    advance game me (h ++ Chose t m n ∷ []) ≡ after_choice game me h m n
unfolding allows allows_choice
choice_taken game me t h m n d i e =
    let a = and_parts _ _ e in
    let b = and_parts _ _ a.1 in
    let c = and_parts _ _ b.0 in
    let f = and_parts _ _ c.0 in
    let g = and_parts _ _ f.0 in
    let turn : length (chosen me h) ≡ t = eqb-true _ _ g.0 in
    let same : allowed game me h (Chose (length (chosen me h)) m n) ≡ true = ap (λ (k : ℕ). allowed game me h (Chose k m n)) turn ∙ e in
    let may : may_choose game me h ≡ true = sym (may_choose_allowed game me h m n d i c.1) ∙ same in
    ap (λ (k : ℕ). advance game me (h ++ Chose k m n ∷ [])) (sym turn)
    ∙ sym (ap (λ (q : Bool). if q then advance game me (h ++ Chose (length (chosen me h)) m n ∷ []) else h) (and_from _ _ may c.1))

-- and so is a frame
frame_taken : (game : Game) (me q : ℕ) (h : List Entry) (f : TurnFrame) → allowed game me h (Got q f) ≡ true → advance game me (h ++ Got q f ∷ []) ≡ after_got game me h q f
unfolding allows
frame_taken game me q h f e =
    let a = and_parts (is_clean game h) (is_of_another game me q f && is_new game me h q f) e in
    let b = and_parts (is_of_another game me q f) (is_new game me h q f) a.1 in
    let taken : is_taken_in game me h q f ≡ true = and_from (is_clean game h && is_of_another game me q f) (is_new game me h q f) (and_from (is_clean game h) (is_of_another game me q f) a.0 b.0) b.1 in
    sym (ap (λ (k : Bool). if k then advance game me (h ++ Got q f ∷ []) else h) taken)

-- the log with an entry whose turn it is
goes_by : (s : Setting) (log : List Entry) (e : Entry) (r : GoesAsRun s log) → advance s.game s.me (log ++ e ∷ []) ≡ log_run s.game s.me (advance s.game s.me log) (steps_told (e ∷ [])) → GoesAsRun s (log ++ e ∷ [])
goes_by s log e r more = record {
  rest = r.rest ++ e ∷ [];
  over = ap (λ (h : List Entry). h ++ e ∷ []) r.over ∙ append_assoc s.over r.rest (e ∷ []);
  run = more ∙ ap (λ (h : List Entry). log_run s.game s.me h (steps_told (e ∷ []))) r.run
      ∙ sym (run_more s.game s.me (advance s.game s.me s.over) (steps_told r.rest) (steps_told (e ∷ [])))
      ∙ ap (log_run s.game s.me (advance s.game s.me s.over)) (sym (told_more r.rest (e ∷ [])));
}

stays : (s : Setting) (log : List Entry) → is_none (next_made s.game s.me log) ≡ true → log ≡ advance s.game s.me log
stays s log none = sym (advance_still s.game s.me log (none_of (next_made s.game s.me log) none))

goes_next : (s : Setting) (v : View) (e : Entry) → v.setting ≡ s → 1 ≤ s.game.ahead → IsHonest s.game s.me v.kept → allowed s.game s.me v.kept e ≡ true → is_next v e ≡ true → GoesAsRun s v.kept → GoesAsRun s (v.kept ++ e ∷ [])
goes_next s v (Made f) same d i a n r =
    let own : next_made s.game s.me v.kept ≡ Some f = ap (λ (z : Setting). next_made z.game z.me v.kept) (sym same) ∙ frame_is (own_next v) f n in
    goes_by s v.kept (Made f) r (sym (advance_step s.game s.me v.kept f d own))
goes_next s v (Chose t m k) same d i a n r =
    let none : is_none (next_made s.game s.me v.kept) ≡ true = ap (λ (z : Setting). is_none (next_made z.game z.me v.kept)) (sym same) ∙ n in
    goes_by s v.kept (Chose t m k) r (choice_taken s.game s.me t v.kept m k d i a ∙ ap (λ (h : List Entry). after_choice s.game s.me h m k) (stays s v.kept none))
goes_next s v (Got q f) same d i a n r =
    let none : is_none (next_made s.game s.me v.kept) ≡ true = ap (λ (z : Setting). is_none (next_made z.game z.me v.kept)) (sym same) ∙ (and_parts _ _ n).0 in
    goes_by s v.kept (Got q f) r (frame_taken s.game s.me q v.kept f a ∙ ap (λ (h : List Entry). after_got s.game s.me h q f) (stays s v.kept none))

-- ---- one more item

-- the entries taken over are all kept where the loop runs; and once they are, the log goes as the protocol's run
abbrev Goes : Setting → View → Type 0
Goes s v = (v.phase ≡ Running → length s.over ≤ length v.kept) × (length s.over ≤ length v.kept → GoesAsRun s v.kept)

goes_keeps : (s : Setting) (v w : View) → Keeps v w → Goes s v → Goes s w
goes_keeps s v w k r = (
  λ on. subst (λ (h : List Entry). length s.over ≤ length h) (sym k.kept) (r.0 (sym k.phase ∙ on)),
  λ all. subst (GoesAsRun s) (sym k.kept) (r.1 (subst (λ (h : List Entry). length s.over ≤ length h) k.kept all)),
)

-- a front of the entries taken over that is as long as they are is all of them
whole_front : (kept rest over : List Entry) → over ≡ kept ++ rest → length over ≤ length kept → kept ≡ over ++ []
whole_front kept [] over e le = sym (append-nil over ∙ e ∙ append-nil kept)
whole_front kept (x ∷ rest) over e le =
    let all = ap (λ (h : List Entry). length h) e ∙ length-append kept (x ∷ rest) in
    absurd (omega (arith, le, all))

goes_over : (s : Setting) (kept rest : List Entry) → s.over ≡ kept ++ rest → length s.over ≤ length kept → GoesAsRun s kept
goes_over s kept rest e le =
    let same = whole_front kept rest s.over e le in
    record { rest = []; over = same; run = ap (advance s.game s.me) (same ∙ append-nil s.over) }

goes_entry : (s : Setting) (v : View) (e : Entry) (p : Phase) → 1 ≤ s.game.ahead → v.phase ≡ p → may_keep_in p v e ≡ true → Fair s v → Fair s (with_entry e v) → Goes s v → Goes s (with_entry e v)
goes_entry s v e Fresh d same h f g r = absurd (false≢true h)
goes_entry s v e Logged d same h f g r =
    let front = g.2 (ap is_early same) in (
      λ on. absurd (let x : Logged ≡ Running = sym same ∙ on in cc),
      λ all. goes_over s (v.kept ++ e ∷ []) front.0 front.1 all,
    )
goes_entry s v e Running d same h f g r =
    let all = r.0 same in
    let both = and_parts _ _ h in (
      λ on. (let more = length-append v.kept (e ∷ []) in omega (arith, all, more)),
      λ le. goes_next s v e f.0 d f.1 (ap (λ (z : Setting). allowed z.game z.me v.kept e) (sym f.0) ∙ both.0) both.1 (r.1 all),
    )
goes_entry s v e KeepFault d same h f g r = absurd (false≢true h)
goes_entry s v e PollFault d same h f g r = absurd (false≢true h)

goes_kept : (s : Setting) (v : View) (bytes : List ℕ) (o : Option Entry) → 1 ≤ s.game.ahead → IsHonest s.game s.me s.over → may_keep_as v bytes o ≡ true → Fair s v → Goes s v → Goes s (kept_entry v o)
goes_kept s v bytes None d over h f r = r
goes_kept s v bytes (Some e) d over h f r =
    let w = with_entry e v in
    let may = (and_parts _ _ h).1 in
    goes_keeps s w (kept_entry v (Some e)) (keeps_sorted w.table.waiting w) (goes_entry s v e v.phase d refl may f (fair_entry s v e v.phase over refl may f) r)

-- the loop listens, once all entries taken over are kept
goes_listening : (s : Setting) (v : View) (addr : Addr) → is_allowed v (Listening addr) ≡ true → Fair s v → Goes s v → Goes s (after v (Listening addr))
goes_listening s v addr h f r =
    let kept : length v.kept ≡ length v.setting.over = eqb-true _ _ (and_parts _ _ (and_parts _ _ (and_parts _ _ h).0).0).1 in
    let same : length v.setting.over ≡ length s.over = ap (λ (z : Setting). length z.over) f.0 in
    let all : length s.over ≤ length v.kept = omega (arith, kept, same) in
    (λ on. all, r.1)

goes_item : (s : Setting) (v : View) (item : Item) → 1 ≤ s.game.ahead → IsHonest s.game s.me s.over → is_allowed v item ≡ true → Fair s v → Goes s v → Goes s (after v item)
goes_item s v (LogBegun name) d over h f r = (λ on. absurd (let x : Logged ≡ Running = on in cc), r.1)
goes_item s v (Listening addr) d over h f r = goes_listening s v addr h f r
goes_item s v (Dialled n q addr) d over h f r = r
goes_item s v (Polled list) d over h f r = r
goes_item s v (Took n bytes) d over h f r = goes_keeps s v (after v (Took n bytes)) (keeps_took v n bytes) r
goes_item s v (Gave n bytes) d over h f r = r
goes_item s v (ReadNotYet n) d over h f r = r
goes_item s v (WriteNotYet n) d over h f r = r
goes_item s v (Ended n) d over h f r = r
goes_item s v (Shut n) d over h f r = r
goes_item s v (Kept bytes) d over h f r = goes_kept s v bytes (entry_in v.writer bytes) d over h f r
goes_item s v Synced d over h f r = r
goes_item s v (Failed (ListenCall addr)) d over h f r = (λ on. absurd (let x : PollFault ≡ Running = on in cc), r.1)
goes_item s v (Failed (LogCall name)) d over h f r = (λ on. absurd (let x : KeepFault ≡ Running = on in cc), r.1)
goes_item s v (Failed (DialCall q addr)) d over h f r = r
goes_item s v (Failed PollCall) d over h f r = (λ on. absurd (let x : PollFault ≡ Running = on in cc), r.1)
goes_item s v (Failed (ReadCall n)) d over h f r = r
goes_item s v (Failed (WriteCall n)) d over h f r = r
goes_item s v (Failed (KeepCall bytes)) d over h f r = (λ on. absurd (let x : KeepFault ≡ Running = on in cc), r.1)
goes_item s v (Failed SyncCall) d over h f r = (λ on. absurd (let x : KeepFault ≡ Running = on in cc), r.1)

goes_all : (s : Setting) (v : View) (items : List Item) → 1 ≤ s.game.ahead → IsHonest s.game s.me s.over → are_allowed v items ≡ true → Fair s v → Goes s v → Goes s (view_after v items)
goes_all s v [] d over h f r = r
goes_all s v (item ∷ items) d over h f r =
    let p = and_parts _ _ h in
    goes_all s (after v item) items d over p.1 (fair_item s v item over p.0 f) (goes_item s v item d over p.0 f r)

-- ---- the whole history

goes_first : (s : Setting) → Goes s (start s)
goes_first s = (λ on. absurd (let x : Fresh ≡ Running = on in cc), λ le. goes_over s [] s.over refl le)

pub logs_are_runs : LogsAreRuns
logs_are_runs s items d over h le = (goes_all s (start s) items d over h (fair_first s over) (goes_first s)).1 le
