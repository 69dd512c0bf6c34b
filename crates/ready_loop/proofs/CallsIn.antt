-- CallsIn: what the calls that keep, handle and read ask of a loop that is seen as its parts, and what is so behind them.
use Rattle.std.proofs.Common.{◌≡◌, ℕ, ◌+◌, ◌-◌, ◌*◌, ◌^◌, ◌<◌, ◌≤◌, Bool, true, false, refl, sym, ap, subst, ◌∙◌, List, [], ◌∷◌, ◌++◌, arith, length, get_or}
use Rattle.std.specs.Prelude.{Some, Result, Ok, Err, not, ◌&&◌, ◌==◌, nat_lt, take, slice_get}
use Rattle.std.proofs.lemmas.Result.{on_ok_weaker}
use Rattle.std.proofs.lemmas.Bool.{and_parts, ltb-true}
use Rattle.std.proofs.lemmas.List.{length-append, length-take-le, take-append-le}
use Rattle.std.proofs.lemmas.Option.{slice_get-get_or, slice_get_within}
use Rattle.definitions.specs.Lists.{EachIs}
use Rattle.definitions.specs.declared.logs.Entry.{Entry}
use Rattle.definitions.specs.declared.logs.Entry.TheVariants.{Got}
use Rattle.definitions.specs.declared.answers.GotAnswer.{GotAnswer}
use Rattle.definitions.specs.World.{Game, players_of}
use Rattle.definitions.specs.Held.{next_place}
use Rattle.definitions.specs.Findings.{is_clean}
use Rattle.definitions.specs.Answers.{got_answer, is_new, is_of_another}
use Rattle.definitions.specs.Advance.{advance, next_made}
use Rattle.definitions.specs.Steps.{is_taken_in}
use Rattle.session_log.specs.Spelling.{FitsEntry}
use Rattle.session_log.specs.Writing.{Writing}
use Rattle.socket_station.specs.Items.{Item, keep_item}
use Rattle.socket_station.specs.declared.answers.SocketRead.{SocketRead}
use Rattle.peer_core.specs.Views.{PeerState, with_got}
use Rattle.peer_core.specs.Answers.{is_logged}
use Rattle.peer_core.proofs.Answering.{logged_is, got_logged, got_unlogged}
use Rattle.socket_lines.specs.declared.seat.Seat.{Seat}
use Rattle.socket_lines.specs.Seats.{asks}
use Rattle.socket_lines.specs.declared.line.Line.{Line}
use Rattle.definitions.specs.Logs.{player_of}
use Rattle.loop_rules.specs.Rules.{wants_read}
use Rattle.loop_rules.specs.Tables.{Table, at_seat}
use Rattle.socket_table.proofs.Seats.{asked_seats}
use Rattle.peer_rules.specs.declared.arrivals.Arrival.{Arrival}
use Rattle.peer_rules.specs.declared.phases.Phase.{Phase}
use Rattle.peer_rules.specs.declared.phases.Phase.TheVariants.{Running, KeepFault}
use Rattle.loop_rules.specs.Told.{IsTold}
use Rattle.loop_rules.specs.Handling.{IsOfOther}
use Rattle.ready_loop.specs.declared.stops.Stop.{Stop}
use Rattle.ready_loop.specs.declared.stops.Stop.TheVariants as T
use Rattle.ready_loop.specs.States.{LoopState, IsFit, IsOthers, setting_of, kept_of, choices_of, view_of}
use Rattle.ready_loop.specs.Steps.{did_by, next_bytes, kept_next, with_table}
use Rattle.ready_loop.specs.Going.{Goes, IsPlayed, undialled}
use Rattle.ready_loop.specs.Handling.{KeepsMade, Advances, IsGot, Hears, IsHearing, Handles, KeepsLines, has_next, passed_as, ReadsOnce, Reads, IsReadyToRead, WantsAt, WantsNone, SameSockets}
use Rattle.ready_loop.proofs.Going.{goes_still}
use Rattle.ready_loop.proofs.Idle.{all_kept}
use Rattle.ready_loop.proofs.Kept.{MayKeep, each_drop, got_may}
use Rattle.ready_loop.proofs.Made.{Making, made_goes, made_on, made_faults, all_made}
use Rattle.own_moves.proofs.Runs.{advance_run, chosen_made}
use Rattle.ready_loop.proofs.Choosing.{with_entries, grown_view, grown_setting, there_last, chosen_got}
use Rattle.ready_loop.proofs.Places.{at_same}
use Rattle.ready_loop.proofs.Handled.{got_faults, got_goes, Handling}
use Rattle.ready_loop.proofs.Served.{lines_differ}
use Rattle.ready_loop.proofs.ReadOnce.{ReadsAt, read_goes, reads_once}
use Rattle.socket_table.specs.Finding.{IsAt}
use Rattle.ready_loop.proofs.Heard.{next_few, pass_hears}
use Rattle.ready_loop.proofs.Fits.{fit_grown, fit_table}
use Rattle.socket_list.proofs.Lists.{each_at}

pub no_fault : (p : Phase) → p ≡ Running → p ≡ KeepFault → ⊥
no_fault p e f = (let q : Running ≡ KeepFault = sym e ∙ f in cc)

-- the entry that is kept next fits
abbrev pub FitsNext : LoopState → Type 0
FitsNext m = (e : Entry) → slice_get m.peer.entries m.kept ≡ Some e → FitsEntry e

-- ---- own frames that were made

lt_now : (i m : LoopState) (es : List Entry) → i ≡ m → i.kept < length es → es ≡ i.peer.entries → m.kept < length m.peer.entries
lt_now i m es same lt e = subst (λ (x : LoopState). x.kept < length x.peer.entries) same (subst (λ (xs : List Entry). i.kept < length xs) e lt)

pub made_first : (items : List Item) (l : LoopState) → IsTold items (view_of l) → l.phase ≡ Running → advance l.peer.game l.peer.me (kept_of l) ≡ l.peer.entries → Making items items l l
made_first items l told running made = record { goes = goes_still items l told; table = refl; handled = refl; synced = refl; peer = refl; running = running; made = made }

made_one : (done r : Bool) (before items after : List Item) (l m n i : LoopState) (w : Writing) (es : List Entry) → Making before items l m → 1 ≤ l.peer.game.ahead → i ≡ m → IsFit i w → i.kept < length es → es ≡ i.peer.entries → FitsNext m →
    r ≡ done → after ≡ items ++ keep_item (did_by r) (next_bytes m) ∷ [] → n ≡ kept_next r m → Goes before after l n
made_one done r before items after l m n i w es k ahead same f lt e fits is on state =
    made_goes r before items after l m n k (subst (λ (p : PeerState). 1 ≤ p.game.ahead) (sym k.peer) ahead) (lt_now i m es same lt e) fits
    (subst (λ (x : LoopState). EachIs (IsOfOther x.peer.game x.peer.me) x.table.waiting) same f.waiting) on state

pub made_stops : (r : Bool) (before items after : List Item) (l m n i : LoopState) (w : Writing) (es : List Entry) → Making before items l m → 1 ≤ l.peer.game.ahead → i ≡ m → IsFit i w → i.kept < length es → es ≡ i.peer.entries → FitsNext m →
    r ≡ false → after ≡ items ++ keep_item (did_by r) (next_bytes m) ∷ [] → n ≡ kept_next r m → KeepsMade (Err T.KeepFault) before after l n
made_stops r before items after l m n i w es k ahead same f lt e fits is on state =
    made_faults before items after l m n k (made_one false r before items after l m n i w es k ahead same f lt e fits is on state) (state ∙ ap (λ (b : Bool). kept_next b m) is)

pub made_more : (r : Bool) (before items after : List Item) (l m n i : LoopState) (w : Writing) (es : List Entry) → Making before items l m → 1 ≤ l.peer.game.ahead → i ≡ m → IsFit i w → i.kept < length es → es ≡ i.peer.entries → FitsNext m →
    r ≡ true → after ≡ items ++ keep_item (did_by r) (next_bytes m) ∷ [] → n ≡ kept_next r m → Making before after l n
made_more r before items after l m n i w es k ahead same f lt e fits is on state =
    made_on before items after l m n k (subst (λ (p : PeerState). 1 ≤ p.game.ahead) (sym k.peer) ahead) (lt_now i m es same lt e) (made_one true r before items after l m n i w es k ahead same f lt e fits is on state) (state ∙ ap (λ (b : Bool). kept_next b m) is)

pub kept_smaller : (r : Bool) (m n i : LoopState) (es : List Entry) → i ≡ m → i.kept < length es → es ≡ i.peer.entries → r ≡ true → n ≡ kept_next r m → length n.peer.entries - n.kept < length m.peer.entries - m.kept
kept_smaller r m n i es same lt e is state =
    let less = lt_now i m es same lt e in
    subst (λ (x : LoopState). length x.peer.entries - x.kept < length m.peer.entries - m.kept) (sym (state ∙ ap (λ (b : Bool). kept_next b m) is)) (omega (arith, less))

pub made_end : (before items : List Item) (l m i : LoopState) → Making before items l m → 1 ≤ l.peer.game.ahead → i ≡ m → i.kept ≡ length i.peer.entries → KeepsMade (Ok tt) before items l m
made_end before items l m i k ahead same all = all_made before items l m k (subst (λ (p : PeerState). 1 ≤ p.game.ahead) (sym k.peer) ahead) (subst (λ (x : LoopState). x.kept ≡ length x.peer.entries) same all)

-- ---- the own frames are made

-- the loop whose peer advanced
abbrev pub advanced : LoopState → LoopState
advanced l = with_entries (advance l.peer.game l.peer.me l.peer.entries) l

advanced_more : (l : LoopState) → (more : List Entry) × (advance l.peer.game l.peer.me l.peer.entries ≡ l.peer.entries ++ more)
advanced_more l = let r = advance_run l.peer.game l.peer.me l.peer.entries in (r.0, r.1)

pub advanced_fits : (i : LoopState) (w : Writing) (p : PeerState) → IsFit i w → p ≡ record i.peer { entries = advance i.peer.game i.peer.me i.peer.entries } → IsFit (record i { peer = p }) w
advanced_fits i w p f e = let more = advanced_more i in subst (λ (x : PeerState). IsFit (record i { peer = x }) w) (sym e) (fit_grown i w (advance i.peer.game i.peer.me i.peer.entries) more.0 more.1 f)

-- the loop before it as its parts
abbrev pub IsAdvanced : (i l m : LoopState) (p : PeerState) → Type 0
IsAdvanced i l m p = (i ≡ l) × (p ≡ record i.peer { entries = advance i.peer.game i.peer.me i.peer.entries }) × (m ≡ record i { peer = p })

advanced_is : (i l m : LoopState) (p : PeerState) → IsAdvanced i l m p → m ≡ advanced l
advanced_is i l m p w = w.2 ∙ ap (λ (x : PeerState). record i { peer = x }) w.1 ∙ ap advanced w.0

pub advanced_told : (items : List Item) (i l m : LoopState) (p : PeerState) (w : Writing) → IsAdvanced i l m p → IsFit i w → IsTold items (view_of l) → IsTold items (view_of m)
advanced_told items i l m p w a f told =
    let more = advanced_more l in
    let g = subst (λ (x : LoopState). IsFit x w) a.0 f in
    subst (λ (x : LoopState). IsTold items (view_of x)) (sym (advanced_is i l m p a)) (subst (IsTold items) (sym (grown_view l (advance l.peer.game l.peer.me l.peer.entries) more.0 more.1 g.kept g.over)) told)

pub advanced_running : (i l m : LoopState) (p : PeerState) → IsAdvanced i l m p → l.phase ≡ Running → m.phase ≡ Running
advanced_running i l m p a r = ap (λ (x : LoopState). x.phase) (advanced_is i l m p a) ∙ r

pub advanced_made : (i l m : LoopState) (p : PeerState) → IsAdvanced i l m p → l.kept ≡ length l.peer.entries → advance m.peer.game m.peer.me (kept_of m) ≡ m.peer.entries
advanced_made i l m p a all =
    let more = advanced_more l in
    subst (λ (x : LoopState). advance x.peer.game x.peer.me (kept_of x) ≡ x.peer.entries) (sym (advanced_is i l m p a))
    (ap (advance l.peer.game l.peer.me)
    (ap (take l.kept) more.1 ∙ take-append-le l.kept l.peer.entries more.0 (omega (arith, all)) ∙ all_kept l all))

pub advances : (r : Result (Unit {0}) Stop) (before after : List Item) (i l m n : LoopState) (p : PeerState) (w : Writing) → IsAdvanced i l m p → IsFit i w → KeepsMade r before after m n → Advances r before after l n
advances r before after i l m n p w a f k =
    let is = advanced_is i l m p a in
    let more = advanced_more l in
    let g = subst (λ (x : LoopState). IsFit x w) a.0 f in
    record {
      goes = record {
        more = k.goes.more;
        grown = k.goes.grown;
        new = k.goes.new;
        polls = k.goes.polls;
        setting = k.goes.setting ∙ ap setting_of is ∙ grown_setting l (advance l.peer.game l.peer.me l.peer.entries) more.0 more.1 g.over;
        undialled = (let u = k.goes.undialled in let v = ap undialled is in omega (arith, u, v));
        told = k.goes.told;
        chosen = k.goes.chosen ∙ ap choices_of is ∙ chosen_made l.peer.game l.peer.me l.peer.entries;
      };
      table = k.table ∙ ap (λ (x : LoopState). x.table) is;
      handled = k.handled ∙ ap (λ (x : LoopState). x.handled) is;
      synced = k.synced ∙ ap (λ (x : LoopState). x.synced) is;
      entries = ap (λ (q : PeerState). q.entries) (k.peer ∙ ap (λ (x : LoopState). x.peer) is);
      stands = k.stands;
    }

-- ---- the entry of a frame

got_lt : (l : LoopState) → IsGot l → l.handled < length l.table.waiting
got_lt l w = slice_get_within l.table.waiting l.handled w.arrival w.first

got_entry : (l : LoopState) (w : IsGot l) → slice_get l.peer.entries l.kept ≡ Some (Got w.arrival.player w.arrival.frame)
got_entry l w =
    let e : Entry = Got w.arrival.player w.arrival.frame in
    let long : length (kept_of l) ≡ l.kept = length-take-le l.kept l.peer.entries (let k = w.kept in omega (arith, k)) in
    ap (λ (es : List Entry). slice_get es l.kept) w.entries ∙ ap (slice_get (kept_of l ++ e ∷ [])) (sym long) ∙ there_last (kept_of l) e

got_keeps : (items : List Item) (l : LoopState) (w : IsGot l) → IsTold items (view_of l) → FitsNext l → MayKeep items l (Got w.arrival.player w.arrival.frame)
got_keeps items l w told fits =
    got_may items l w (got_lt l w) told (got_entry l w) (let k = w.kept in omega (arith, k)) (fits (Got w.arrival.player w.arrival.frame) (got_entry l w))
    (each_drop (IsOfOther l.peer.game l.peer.me) l.handled l.table.waiting w.others) (each_at (IsOfOther l.peer.game l.peer.me) l.table.waiting l.handled w.arrival w.others w.first)

pub got_more : (l : LoopState) → IsGot l → l.kept < length l.peer.entries
got_more l w = (let k = w.kept in omega (arith, k))

pub got_stops : (r : Bool) (items after : List Item) (l m : LoopState) → IsGot l → IsTold items (view_of l) → FitsNext l → r ≡ false → after ≡ items ++ keep_item (did_by r) (next_bytes l) ∷ [] → m ≡ kept_next r l → Hears (Err T.KeepFault) items after l m
got_stops r items after l m w told fits is on state =
    got_faults items after l m (Got w.arrival.player w.arrival.frame) (got_keeps items l w told fits) w.entries (on ∙ ap (λ (b : Bool). items ++ keep_item (did_by b) (next_bytes l) ∷ []) is) (state ∙ ap (λ (b : Bool). kept_next b l) is)

-- the loop after the keep, seen as its parts, and then with one more frame handled
pub got_state : (r : Bool) (l m i n : LoopState) → r ≡ true → m ≡ kept_next r l → i ≡ m → n ≡ record i { handled = i.handled + 1 } → n ≡ record l { kept = l.kept + 1; handled = l.handled + 1 }
got_state r l m i n is state same next = next ∙ ap (λ (x : LoopState). record x { handled = x.handled + 1 }) (same ∙ state ∙ ap (λ (b : Bool). kept_next b l) is)

pub got_on : (r : Bool) (items after : List Item) (l n : LoopState) → IsGot l → IsTold items (view_of l) → FitsNext l → r ≡ true → after ≡ items ++ keep_item (did_by r) (next_bytes l) ∷ [] → n ≡ record l { kept = l.kept + 1; handled = l.handled + 1 } → Goes items after l n
got_on r items after l n w told fits is on state =
    got_goes items after l n w (got_lt l w) (got_keeps items l w told fits) (on ∙ ap (λ (b : Bool). items ++ keep_item (did_by b) (next_bytes l) ∷ []) is) state

pub got_kept : (l n : LoopState) → IsGot l → n ≡ record l { kept = l.kept + 1; handled = l.handled + 1 } → (n.phase ≡ Running) × (n.kept ≡ length n.peer.entries)
got_kept l n w state = (ap (λ (x : LoopState). x.phase) state ∙ w.running, ap (λ (x : LoopState). x.kept) state ∙ w.kept ∙ sym (ap (λ (x : LoopState). length x.peer.entries) state))

-- ---- a frame that waits

next_parts : (l : LoopState) → has_next l ≡ true → (l.handled < length l.table.waiting) × (is_clean l.peer.game l.peer.entries ≡ true)
next_parts l e = let p = and_parts (nat_lt l.handled (length l.table.waiting)) (is_clean l.peer.game l.peer.entries) e in (ltb-true l.handled (length l.table.waiting) p.0, p.1)

-- the frame that is handled, as it was read off the list
pub record IsHeard (i l : LoopState) (a : Arrival) (answer : GotAnswer) (p : PeerState) : Type 0 where
  pub same : i ≡ l
  pub first : slice_get i.table.waiting i.handled ≡ Some a
  pub answered : answer ≡ got_answer i.peer.game i.peer.me i.peer.entries a.player a.frame
  pub log : p ≡ record i.peer { entries = with_got i.peer.game i.peer.me i.peer.entries a.player a.frame }
  pub others : EachIs (IsOfOther i.peer.game i.peer.me) i.table.waiting

pub heard_logged : (i l : LoopState) (a : Arrival) (answer : GotAnswer) (p : PeerState) (w : Writing) → IsHeard i l a answer p → IsFit i w → is_logged answer ≡ true → IsFit (record i { peer = p }) w
heard_logged i l a answer p w h f logged =
    subst (λ (x : PeerState). IsFit (record i { peer = x }) w) (sym h.log)
    (fit_grown i w (with_got i.peer.game i.peer.me i.peer.entries a.player a.frame) (Got a.player a.frame ∷ []) (got_logged i.peer.game i.peer.me i.peer.entries a.player a.frame answer h.answered logged) f)

pub heard_unlogged : (i l : LoopState) (a : Arrival) (answer : GotAnswer) (p : PeerState) (w : Writing) → IsHeard i l a answer p → IsFit i w → is_logged answer ≡ false → IsFit (record i { peer = p }) w
heard_unlogged i l a answer p w h f un =
    subst (λ (x : PeerState). IsFit (record i { peer = x }) w) (sym (h.log ∙ ap (λ (es : List Entry). record i.peer { entries = es }) (got_unlogged i.peer.game i.peer.me i.peer.entries a.player a.frame answer h.answered un))) f

-- the loop with the entry
heard_state : (i l m : LoopState) (a : Arrival) (answer : GotAnswer) (p : PeerState) → IsHeard i l a answer p → is_logged answer ≡ true → m ≡ record i { peer = p } → m ≡ with_entries (l.peer.entries ++ Got a.player a.frame ∷ []) l
heard_state i l m a answer p h logged state =
    state ∙ ap (λ (x : PeerState). record i { peer = x }) (h.log ∙ ap (λ (es : List Entry). record i.peer { entries = es }) (got_logged i.peer.game i.peer.me i.peer.entries a.player a.frame answer h.answered logged))
    ∙ ap (λ (x : LoopState). with_entries (x.peer.entries ++ Got a.player a.frame ∷ []) x) h.same

pub heard_got : (items : List Item) (i l m : LoopState) (a : Arrival) (answer : GotAnswer) (p : PeerState) (w : Writing) → IsHeard i l a answer p → IsFit i w → IsHearing items l → has_next l ≡ true → is_logged answer ≡ true → m ≡ record i { peer = p } → IsGot m
heard_got items i l m a answer p w h f hearing next logged state =
    subst IsGot (sym (heard_state i l m a answer p h logged state)) (record {
      running = hearing.running;
      arrival = a;
      first = subst (λ (x : LoopState). slice_get x.table.waiting x.handled ≡ Some a) h.same h.first;
      entries = ap (λ (es : List Entry). es ++ Got a.player a.frame ∷ []) (sym before);
      kept = (let all = hearing.played.kept in let long = length-append l.peer.entries (Got a.player a.frame ∷ []) in omega (arith, all, long));
      new = ap (λ (es : List Entry). is_new l.peer.game l.peer.me es a.player a.frame) before ∙ taken.1;
      clean = ap (is_clean l.peer.game) before ∙ (next_parts l next).1;
      made = ap (next_made l.peer.game l.peer.me) before ∙ hearing.played.made;
      others = subst (λ (x : LoopState). EachIs (IsOfOther x.peer.game x.peer.me) x.table.waiting) h.same h.others;
    })
  where
    before : take l.kept (l.peer.entries ++ Got a.player a.frame ∷ []) ≡ l.peer.entries
    before = take-append-le l.kept l.peer.entries (Got a.player a.frame ∷ []) (let all = hearing.played.kept in omega (arith, all)) ∙ all_kept l hearing.played.kept

    in_l : is_taken_in l.peer.game l.peer.me l.peer.entries a.player a.frame ≡ true
    in_l = subst (λ (x : LoopState). is_taken_in x.peer.game x.peer.me x.peer.entries a.player a.frame ≡ true) h.same
        (sym (logged_is i.peer.game i.peer.me i.peer.entries a.player a.frame) ∙ ap is_logged (sym h.answered) ∙ logged)

    taken : ((is_clean l.peer.game l.peer.entries && is_of_another l.peer.game l.peer.me a.player a.frame) ≡ true) × (is_new l.peer.game l.peer.me l.peer.entries a.player a.frame ≡ true)
    taken = and_parts (is_clean l.peer.game l.peer.entries && is_of_another l.peer.game l.peer.me a.player a.frame) (is_new l.peer.game l.peer.me l.peer.entries a.player a.frame) in_l

pub heard_told : (items : List Item) (i l m : LoopState) (a : Arrival) (answer : GotAnswer) (p : PeerState) (w : Writing) → IsHeard i l a answer p → IsFit i w → IsHearing items l → is_logged answer ≡ true → m ≡ record i { peer = p } → IsTold items (view_of m)
heard_told items i l m a answer p w h f hearing logged state =
    let g = subst (λ (x : LoopState). IsFit x w) h.same f in
    subst (λ (x : LoopState). IsTold items (view_of x)) (sym (heard_state i l m a answer p h logged state))
    (subst (IsTold items) (sym (grown_view l (l.peer.entries ++ Got a.player a.frame ∷ []) (Got a.player a.frame ∷ []) refl g.kept g.over)) hearing.told)

-- from the loop before the frame came
pub heard_hears : (r : Result (Unit {0}) Stop) (items after : List Item) (i l m n : LoopState) (a : Arrival) (answer : GotAnswer) (p : PeerState) (w : Writing) → IsHeard i l a answer p → IsFit i w → is_logged answer ≡ true → m ≡ record i { peer = p } → Hears r items after m n → Hears r items after l n
heard_hears r items after i l m n a answer p w h f logged state k =
    let g = subst (λ (x : LoopState). IsFit x w) h.same f in
    let is = heard_state i l m a answer p h logged state in
    record {
      goes = record {
        more = k.goes.more;
        grown = k.goes.grown;
        new = k.goes.new;
        polls = k.goes.polls;
        setting = k.goes.setting ∙ ap setting_of is ∙ grown_setting l (l.peer.entries ++ Got a.player a.frame ∷ []) (Got a.player a.frame ∷ []) refl g.over;
        undialled = (let u = k.goes.undialled in let v = ap undialled is in omega (arith, u, v));
        told = k.goes.told;
        chosen = k.goes.chosen ∙ ap choices_of is ∙ chosen_got l.peer.me l.peer.entries a.player a.frame;
      };
      keeps = subst (λ (x : LoopState). KeepsLines x.table n.table) is k.keeps;
      waiting = k.waiting ∙ ap (λ (x : LoopState). x.table.waiting) is;
      handled = on_ok_weaker r (λ (e : n.handled ≡ m.handled + 1). e ∙ ap (λ (x : LoopState). x.handled + 1) is) k.handled;
      stands = k.stands;
    }

pub heard_passed : (items : List Item) (i l m n : LoopState) (a : Arrival) (answer : GotAnswer) (p : PeerState) (w : Writing) → IsHeard i l a answer p → IsFit i w → IsHearing items l → has_next l ≡ true → is_logged answer ≡ false → m ≡ record i { peer = p } → n ≡ passed_as answer a.player m → Hears (Ok tt) items items l n
heard_passed items i l m n a answer p w h f hearing next un state passed =
    let parts = next_parts l next in
    let is : m ≡ l = state ∙ ap (λ (x : PeerState). record i { peer = x }) (h.log ∙ ap (λ (es : List Entry). record i.peer { entries = es }) (got_unlogged i.peer.game i.peer.me i.peer.entries a.player a.frame answer h.answered un)) ∙ h.same in
    let first = subst (λ (x : LoopState). slice_get x.table.waiting x.handled ≡ Some a) h.same h.first in
    let others = subst (λ (x : LoopState). EachIs (IsOfOther x.peer.game x.peer.me) x.table.waiting) h.same h.others in
    pass_hears items l n a answer hearing parts.0 first parts.1 (each_at (IsOfOther l.peer.game l.peer.me) l.table.waiting l.handled a others first)
    (subst (λ (x : LoopState). answer ≡ got_answer x.peer.game x.peer.me x.peer.entries a.player a.frame) h.same h.answered) un (passed ∙ ap (passed_as answer a.player) is)

pub got_few : (r : Bool) (l m i : LoopState) → r ≡ true → m ≡ kept_next r l → i ≡ m → l.handled + 1 < 2 ^ 64 → i.handled + 1 < 2 ^ 64
got_few r l m i is state same few = subst (λ (x : LoopState). x.handled + 1 < 2 ^ 64) (sym (same ∙ state ∙ ap (λ (b : Bool). kept_next b l) is)) few

-- ---- asking, and what is passed over

pub asks_few : (game : Game) (me next : ℕ) (cs : List Seat) → next ≤ 2 * game.turns → EachIs (IsOthers game me) cs → EachIs (λ c. next ≤ c.asks.most) cs
asks_few game me next [] few e = tt
asks_few game me next (c ∷ cs) few e = ((let m = e.0.most in omega (arith, m, few)), asks_few game me next cs few e.1)

pub ask_may : (i : LoopState) (w : Writing) (q next : ℕ) → IsFit i w → next ≡ next_place i.peer.game i.peer.me i.peer.entries q → EachIs (λ c. next ≤ c.asks.most) i.table.seats
ask_may i w q next f e = asks_few i.peer.game i.peer.me next i.table.seats (let few = next_few i.peer.game i.peer.me i.peer.entries q in omega (arith, e, few)) f.seats

pub ask_fits : (i : LoopState) (w : Writing) (q next : ℕ) (u : Table) → IsFit i w → u ≡ at_seat q (asks next) i.table → IsFit (with_table u i) w
ask_fits i w q next u f e = subst (λ (t : Table). IsFit (with_table t i) w) (sym e) (fit_table i w (at_seat q (asks next) i.table) (asked_seats q next i.table) f.waiting f)

pub heard_first : (xs ys : List Arrival) (k : ℕ) (a : Arrival) → xs ≡ ys → k < length xs → a ≡ get_or xs k a → slice_get ys k ≡ Some a
heard_first xs ys k a e lt i = ap (λ (zs : List Arrival). slice_get zs k) (sym e) ∙ slice_get-get_or xs k a lt ∙ ap (λ (x : Arrival). Some x) (sym i)

pub next_lt : (i l : LoopState) → i ≡ l → has_next l ≡ true → i.handled < length i.table.waiting
next_lt i l same e = subst (λ (x : LoopState). x.handled < length x.table.waiting) (sym same) (next_parts l e).0

pub next_now : (l : LoopState) → has_next l ≡ true → l.handled < length l.table.waiting
next_now l e = (next_parts l e).0

-- ---- all frames that wait

pub hearing_on : (before items : List Item) (l m : LoopState) → Handling before items l m → IsHearing items m
hearing_on before items l m w = record { told = w.goes.told; running = w.running; played = w.played }

pub hears_smaller : (u : Unit {0}) (items after : List Item) (l m : LoopState) → has_next l ≡ true → Hears (Ok u) items after l m → length m.table.waiting - m.handled < length l.table.waiting - l.handled
hears_smaller u items after l m next h =
    let lt = (next_parts l next).0 in
    let one = h.handled in
    let same = ap (λ (ws : List Arrival). length ws) h.waiting in
    omega (arith, lt, one, same)

-- ---- reading

reads_at : (items : List Item) (l : LoopState) (k s : ℕ) → IsReadyToRead items l → (at : IsAt l.table k s) → WantsAt l.table k → ReadsAt l k s
reads_at items l k s w at wants = record { line = at.0; here = at.1; socket = at.2; wants = wants at.0 at.1; differ = lines_differ items l w.told w.steady.idle }

pub read_hearing : (k s : ℕ) (read : SocketRead) (before after : List Item) (l m : LoopState) → IsReadyToRead before l → IsAt l.table k s → WantsAt l.table k → ReadsOnce s read before after l m → IsHearing after m
read_hearing k s read before after l m w at wants r = record {
  told = (read_goes k s read before after l m w (reads_at before l k s w at wants) r).told;
  running = ap (λ (x : LoopState). x.phase) r.state ∙ w.steady.idle.running;
  played = subst IsPlayed (sym r.state) (record { kept = w.steady.idle.kept; made = w.steady.made });
}

pub read_first : (s : ℕ) (read : SocketRead) (before after : List Item) (l m : LoopState) → IsReadyToRead before l → ReadsOnce s read before after l m → m.handled ≡ 0
read_first s read before after l m w r = ap (λ (x : LoopState). x.handled) r.state ∙ w.steady.idle.handled

pub reads_so : (answer : Result (Unit {0}) Stop) (k s : ℕ) (read : SocketRead) (before mid after : List Item) (l m n : LoopState) → IsReadyToRead before l → IsAt l.table k s → WantsAt l.table k → ReadsOnce s read before mid l m → Handles answer mid after m n → Reads answer k s before after l n
reads_so answer k s read before mid after l m n w at wants r h = reads_once answer k s read before mid after l m n w (reads_at before l k s w at wants) r h

-- ---- what the code's tests say

pub waiting_player : (i l : LoopState) (a : Arrival) (p : PeerState) (w : Writing) → i ≡ l → IsFit i w → slice_get l.table.waiting l.handled ≡ Some a → p ≡ record i.peer { entries = with_got i.peer.game i.peer.me i.peer.entries a.player a.frame } → a.player < players_of p.game
waiting_player i l a p w same f first log =
    let h = subst (λ (x : LoopState). slice_get x.table.waiting x.handled ≡ Some a) (sym same) first in
    let other = each_at (IsOfOther i.peer.game i.peer.me) i.table.waiting i.handled a f.waiting h in
    let both = and_parts (nat_lt a.player (players_of i.peer.game) && not (a.player == i.peer.me)) (player_of a.frame == a.player) other in
    let lt = ltb-true a.player (players_of i.peer.game) (and_parts (nat_lt a.player (players_of i.peer.game)) (not (a.player == i.peer.me)) both.0).0 in
    subst (λ (g : Game). a.player < players_of g) (sym (ap (λ (q : PeerState). q.game) log)) lt

pub cleared_state : (i m : LoopState) (u : Table) → i ≡ m → u ≡ record i.table { waiting = [] } → record i { table = u; handled = 0 } ≡ record m { table = record m.table { waiting = [] }; handled = 0 }
cleared_state i m u same e = ap (λ (t : Table). record i { table = t; handled = 0 }) e ∙ ap (λ (x : LoopState). record x { table = record x.table { waiting = [] }; handled = 0 }) same

pub at_few : (t u : Table) (k s : ℕ) → SameSockets t u → IsAt t k s → k < length u.lines
at_few t u k s same at = let here = at_same t u k s same at in slice_get_within u.lines k here.0 here.1

pub wants_none : (t : Table) (k : ℕ) (r : Bool) → ((x : Line) → slice_get t.lines k ≡ Some x → r ≡ wants_read t x) → r ≡ false → WantsNone t k
wants_none t k r is none x g = sym (is x g) ∙ none
