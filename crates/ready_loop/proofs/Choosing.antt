-- Choosing: an own move is chosen, and kept.
use Rattle.std.proofs.Common.{inl, inr, ◌≡◌, ℕ, ◌+◌, ◌-◌, ◌<◌, ◌≤◌, Bool, true, false, refl, sym, ap, subst, ◌∙◌, List, [], ◌∷◌, ◌++◌, append-nil, arith, length}
use Rattle.std.specs.Prelude.{Option, Some, Result, Ok, Err, ◌&&◌, take, slice_get, is_none}
use Rattle.std.specs.List.{fold}
use Rattle.std.proofs.lemmas.List.{length-append, take-append-le}
use Rattle.definitions.specs.Lists.{EachIs, is_empty}
use Rattle.definitions.specs.declared.frames.TurnFrame.{TurnFrame}
use Rattle.definitions.specs.declared.openings.Opening.{Opening}
use Rattle.definitions.specs.declared.openings.Nonce.{Nonce}
use Rattle.definitions.specs.declared.world.Move.{Move}
use Rattle.definitions.specs.Needs.{may_choose}
use Rattle.peer_core.specs.Standing.{IsStanding}
use Rattle.definitions.specs.declared.logs.Entry.{Entry}
use Rattle.definitions.specs.declared.logs.Entry.TheVariants.{Chose, Got}
use Rattle.definitions.specs.World.{Game}
use Rattle.definitions.specs.Logs.{chosen}
use Rattle.definitions.specs.Honest.{IsHonest, allowed}
use Rattle.definitions.specs.Advance.{advance, next_made}
use Rattle.definitions.specs.declared.findings.Finding.{Finding}
use Rattle.definitions.specs.Findings.{is_clean}
use Rattle.definition_laws.proofs.Silent.{findings_chose, clean_advance}
use Rattle.definition_laws.proofs.Chosen.{chosen_push}
use Rattle.session_log.specs.Spelling.{FitsEntry}
use Rattle.session_log.specs.Writing.{Writing, fresh}
use Rattle.session_log.specs.Writing as W
use Rattle.socket_station.specs.Items.{Item, keep_item}
use Rattle.pilots.specs.Plans.{Plan}
use Rattle.peer_core.specs.Views.{PeerState}
use Rattle.loop_rules.specs.Tables.{Table}
use Rattle.peer_rules.specs.declared.phases.Phase.{Phase}
use Rattle.peer_rules.specs.declared.phases.Phase.TheVariants.{Running}
use Rattle.loop_rules.specs.Settings.{Setting}
use Rattle.loop_rules.specs.Views.{View}
use Rattle.loop_rules.specs.Handling.{sorted, IsOfOther}
use Rattle.loop_rules.specs.Keeping.{may_keep_in}
use Rattle.loop_rules.specs.Told.{IsTold}
use Rattle.loop_rules.proofs.Kept.{Keeps, keeps_sorted}
use Rattle.ready_loop.specs.States.{LoopState, IsFit, setting_of, kept_of, base_of, rest_of, view_of}
use Rattle.ready_loop.specs.Steps.{did_by, next_bytes, kept_next}
use Rattle.ready_loop.specs.Going.{Grows, IsCut, IsSteady, undialled}
use Rattle.ready_loop.specs.declared.stops.Stop.{Stop}
use Rattle.ready_loop.specs.declared.stops.Stop.TheVariants as T
use Rattle.ready_loop.specs.Stops.{StandsStopped}
use Rattle.ready_loop.specs.Handling.{Advances}
use Rattle.ready_loop.specs.Settling.{IsPlaying, ChoosesIn, HasChosen, Chooses, Plays}
use Rattle.own_moves.specs.declared.making.Moves.{Moves}
use Rattle.own_moves.specs.declared.making.Moves.TheVariants as M
use Rattle.own_moves.specs.Choices.{Chooser, ChoosesBy}
use Rattle.own_moves.specs.Making.{HasChoice, PutsMove}
use Rattle.own_moves.proofs.Runs.{chose_next, chosen_made, chosen_one}
use Rattle.ready_loop.proofs.Going.{goes_still, grows, grows_then, grows_goes}
use Rattle.ready_loop.proofs.Choices.{chooses_none, chooses_then, chooses_goes}
use Rattle.ready_loop.proofs.Idle.{all_kept}
use Rattle.ready_loop.proofs.Stopped.{faulty_stops, faulty_unchosen}
use Rattle.ready_loop.proofs.Kept.{MayKeep, own_goes, each_drop}
use Rattle.ready_loop.proofs.Fits.{fit_grown}

-- ---- entries that are not kept yet show nothing

-- the loop, whose peer has these entries
abbrev pub with_entries : List Entry → LoopState → LoopState
with_entries es l = record l { peer = record l.peer { entries = es } }

pub grown_base : (l : LoopState) (es more : List Entry) → es ≡ l.peer.entries ++ more → l.kept ≤ length l.peer.entries → l.over ≤ length l.peer.entries → base_of (with_entries es l) ≡ base_of l
grown_base l es more e kept over =
    ap (λ (xs : List Entry). base_of (with_entries xs l)) e
    ∙ ap (λ (xs : List Entry). with_taken xs (take l.over (l.peer.entries ++ more))) (take-append-le l.kept l.peer.entries more kept)
    ∙ ap (λ (xs : List Entry). with_taken (kept_of l) xs) (take-append-le l.over l.peer.entries more over)
  where
    with_taken : (kept over : List Entry) → View
    with_taken kept over = record (base_of l) { setting = record (setting_of l) { over = over }; kept = kept; writer = fold W.after (fresh l.peer.game.id l.peer.me) kept }

pub grown_view : (l : LoopState) (es more : List Entry) → es ≡ l.peer.entries ++ more → l.kept ≤ length l.peer.entries → l.over ≤ length l.peer.entries → view_of (with_entries es l) ≡ view_of l
grown_view l es more e kept over = ap (sorted (rest_of l)) (grown_base l es more e kept over)

pub grown_setting : (l : LoopState) (es more : List Entry) → es ≡ l.peer.entries ++ more → l.over ≤ length l.peer.entries → setting_of (with_entries es l) ≡ setting_of l
grown_setting l es more e over =
    ap (λ (xs : List Entry). setting_of (with_entries xs l)) e
    ∙ ap (λ (xs : List Entry). record (setting_of l) { over = xs }) (take-append-le l.over l.peer.entries more over)

-- ---- the choice

pub there_last : (h : List Entry) (e : Entry) → slice_get (h ++ e ∷ []) (length h) ≡ Some e
there_last [] e = refl
there_last (x ∷ h) e = there_last h e

-- what was chosen, and is not kept yet
pub record IsChosen (items : List Item) (l m : LoopState) (e : Entry) : Type 0 where
  pub told : IsTold items (view_of l)
  pub steady : IsSteady l
  pub same : m ≡ with_entries (l.peer.entries ++ e ∷ []) l
  pub honest : IsHonest l.peer.game l.peer.me (l.peer.entries ++ e ∷ [])
  pub kept : l.kept ≤ length l.peer.entries
  pub over : l.over ≤ length l.peer.entries
  pub waiting : EachIs (IsOfOther l.peer.game l.peer.me) l.table.waiting

chosen_may : (l : LoopState) (t : ℕ) (mv : Move) (n : Nonce) → IsSteady l → IsHonest l.peer.game l.peer.me (l.peer.entries ++ Chose t mv n ∷ []) → l.kept ≤ length l.peer.entries → l.over ≤ length l.peer.entries →
    may_keep_in (view_of l).phase (view_of l) (Chose t mv n) ≡ true
chosen_may l t mv n w honest kept over =
    ap (λ (p : Phase). may_keep_in p (view_of l) (Chose t mv n)) (k.phase ∙ w.idle.running)
    ∙ ap (λ (s : Setting). allowed s.game s.me (view_of l).kept (Chose t mv n) && is_none (next_made s.game s.me (view_of l).kept)) k.setting
    ∙ ap (λ (h : List Entry). allowed l.peer.game l.peer.me h (Chose t mv n) && is_none (next_made l.peer.game l.peer.me h)) (k.kept ∙ all_kept l w.idle.kept)
    ∙ chose_next l.peer.game l.peer.me l.peer.entries t mv n honest w.made
  where
    k : Keeps (base_of l) (view_of l)
    k = keeps_sorted (rest_of l) (base_of l)

pub chosen_keeps : (items : List Item) (l m : LoopState) (t : ℕ) (mv : Move) (n : Nonce) → IsChosen items l m (Chose t mv n) → FitsEntry (Chose t mv n) → MayKeep items m (Chose t mv n)
chosen_keeps items l m t mv n w f = subst (λ (x : LoopState). MayKeep items x e) (sym w.same) (record {
  told = subst (IsTold items) (sym shown) w.told;
  more = (let long = length-append l.peer.entries (e ∷ []) in let k = w.kept in omega (arith, long, k));
  next = ap (slice_get (l.peer.entries ++ e ∷ [])) w.steady.idle.kept ∙ there_last l.peer.entries e;
  fits = f;
  each = each_drop (IsOfOther l.peer.game l.peer.me) l.handled l.table.waiting w.waiting;
  may = ap (λ (v : View). may_keep_in v.phase v e) shown ∙ chosen_may l t mv n w.steady w.honest w.kept w.over;
})
  where
    e : Entry
    e = Chose t mv n

    shown : view_of (with_entries (l.peer.entries ++ e ∷ []) l) ≡ view_of l
    shown = grown_view l (l.peer.entries ++ e ∷ []) (e ∷ []) refl w.kept w.over

-- from the loop before the choice
pub chosen_goes : (done : Bool) (items after : List Item) (l m n : LoopState) (t : ℕ) (mv : Move) (nonce : Nonce) → IsChosen items l m (Chose t mv nonce) → FitsEntry (Chose t mv nonce) →
    after ≡ items ++ keep_item (did_by done) (next_bytes m) ∷ [] → n ≡ kept_next done m → Grows items after l n
chosen_goes done items after l m n t mv nonce w f on same =
    let g = own_goes done items after m n (Chose t mv nonce) (chosen_keeps items l m t mv nonce w f) tt on same in
    record {
      more = g.more;
      grown = g.grown;
      new = g.new;
      polls = g.polls;
      setting = g.setting ∙ ap setting_of w.same ∙ grown_setting l (l.peer.entries ++ Chose t mv nonce ∷ []) (Chose t mv nonce ∷ []) refl w.over;
      undialled = (let u = g.undialled in let v = ap undialled w.same in omega (arith, u, v));
      told = g.told;
    }

-- frames that were got are no choices
pub chosen_got : (me : ℕ) (h : List Entry) (q : ℕ) (f : TurnFrame) → chosen me (h ++ Got q f ∷ []) ≡ chosen me h
chosen_got me h q f = chosen_push me h (Got q f) ∙ append-nil (chosen me h)

-- ---- the loop after its peer chose

-- the choice is in its log
pub record HasPut (by to : Chooser) (l m : LoopState) : Type 0 where
  pub puts : PutsMove by to M.Legal l.peer m.peer
  pub same : m ≡ record l { peer = m.peer }
  -- with what every loop keeps to
  pub kept : l.kept ≤ length l.peer.entries
  pub over : l.over ≤ length l.peer.entries
  pub waiting : EachIs (IsOfOther l.peer.game l.peer.me) l.table.waiting

-- from what stands inside
pub has_put : (by to : Chooser) (made : Moves) (i l : LoopState) (w : Writing) (q : PeerState) → i ≡ l → IsFit i w → PutsMove by to made i.peer q → made ≡ M.Legal → HasPut by to l (record i { peer = q })
has_put by to made i l w q same f puts is =
    subst (λ (x : LoopState). HasPut by to x (record i { peer = q })) same
    (record { puts = subst (λ (x : Moves). PutsMove by to x i.peer q) is puts; same = refl; kept = f.kept; over = f.over; waiting = f.waiting })

-- either way it keeps to what every loop does
pub put_fits : (by to : Chooser) (made : Moves) (i : LoopState) (w : Writing) (q : PeerState) → IsFit i w → PutsMove by to made i.peer q → IsFit (record i { peer = q }) w
put_fits by to M.Legal i w q f puts =
    let k = puts.stands in
    let e : Entry = Chose (length (chosen i.peer.me i.peer.entries)) k.mv k.nonce in
    subst (λ (x : PeerState). IsFit (record i { peer = x }) w) (sym k.state) (fit_grown i w (i.peer.entries ++ e ∷ []) (e ∷ []) refl f)
put_fits by to (M.OwnMove turn fault) i w q f puts = subst (λ (x : PeerState). IsFit (record i { peer = x }) w) (sym puts.stands.0) f

-- ---- the choice is kept

-- the entry that was put
abbrev put_entry : (l m : LoopState) → HasChoice l.peer m.peer → Entry
put_entry l m k = Chose (length (chosen l.peer.me l.peer.entries)) k.mv k.nonce

put_same : (by to : Chooser) (l m : LoopState) → (p : HasPut by to l m) → m ≡ with_entries (l.peer.entries ++ put_entry l m p.puts.stands ∷ []) l
put_same by to l m p = p.same ∙ ap (λ (q : PeerState). record l { peer = q }) p.puts.stands.state

chosen_is : (by to : Chooser) (items : List Item) (l m : LoopState) → IsPlaying items l → (p : HasPut by to l m) → IsChosen items l m (put_entry l m p.puts.stands)
chosen_is by to items l m w p = record {
  told = w.told;
  steady = w.steady;
  same = put_same by to l m p;
  honest = (subst IsStanding p.puts.stands.state p.puts.stands.standing).honest;
  kept = p.kept;
  over = p.over;
  waiting = p.waiting;
}

put_goes : (by to : Chooser) (r : Bool) (items after : List Item) (l m n : LoopState) → IsPlaying items l → HasPut by to l m → ((e : Entry) → slice_get m.peer.entries m.kept ≡ Some e → FitsEntry e) →
    after ≡ items ++ keep_item (did_by r) (next_bytes m) ∷ [] → n ≡ kept_next r m → Grows items after l n
put_goes by to r items after l m n w p fits on state =
    let k = p.puts.stands in
    let e = put_entry l m k in
    let next : slice_get m.peer.entries m.kept ≡ Some e = subst (λ (x : LoopState). slice_get x.peer.entries x.kept ≡ Some e) (sym (put_same by to l m p)) (ap (slice_get (l.peer.entries ++ e ∷ [])) w.steady.idle.kept ∙ there_last l.peer.entries e) in
    chosen_goes r items after l m n (length (chosen l.peer.me l.peer.entries)) k.mv k.nonce (chosen_is by to items l m w p) (fits e next) on state

-- a keep chooses nothing
put_still : (by to : Chooser) (l m n : LoopState) → HasPut by to l m → n.peer ≡ m.peer → ChoosesIn by to false l n
put_still by to l m n p same = subst (λ (q : PeerState). ChoosesBy l.peer.game l.peer.me by to false l.peer.entries q.entries) (sym same) p.puts.choices

pub choose_faults : (by to : Chooser) (r : Bool) (items after : List Item) (l m n : LoopState) → IsPlaying items l → HasPut by to l m → ((e : Entry) → slice_get m.peer.entries m.kept ≡ Some e → FitsEntry e) →
    r ≡ false → after ≡ items ++ keep_item (did_by r) (next_bytes m) ∷ [] → n ≡ kept_next r m → Chooses by to (Err T.KeepFault) items after l n
choose_faults by to r items after l m n w p fits is on state =
    let e = put_entry l m p.puts.stands in
    let same : n ≡ kept_next false m = state ∙ ap (λ (b : Bool). kept_next b m) is in
    let both : n ≡ kept_next false (with_entries (l.peer.entries ++ e ∷ []) l) = same ∙ ap (kept_next false) (put_same by to l m p) in
    let kept : take l.kept (l.peer.entries ++ e ∷ []) ≡ l.peer.entries = take-append-le l.kept l.peer.entries (e ∷ []) (let k = w.steady.idle.kept in omega (arith, k)) ∙ all_kept l w.steady.idle.kept in
    record {
      refused = false;
      refuses = tt;
      choices = put_still by to l m n p (ap (λ (x : LoopState). x.peer) same);
      grows = put_goes by to r items after l m n w p fits on state;
      stands = subst IsCut (sym both) (record { fault = refl; rest = inr (inl (e, ap (λ (xs : List Entry). xs ++ e ∷ []) (sym kept))) });
    }

-- after the keep of the choice
pub record IsPut (by to : Chooser) (items mid : List Item) (l n : LoopState) : Type 0 where
  pub choices : ChoosesIn by to false l n
  pub choice : HasChoice l.peer n.peer
  pub grows : Grows items mid l n
  pub running : n.phase ≡ Running
  pub kept : n.kept ≡ length n.peer.entries
  pub table : n.table ≡ l.table
  pub handled : n.handled ≡ l.handled

pub put_on : (by to : Chooser) (r : Bool) (items after : List Item) (l m n : LoopState) → IsPlaying items l → HasPut by to l m → ((e : Entry) → slice_get m.peer.entries m.kept ≡ Some e → FitsEntry e) →
    r ≡ true → after ≡ items ++ keep_item (did_by r) (next_bytes m) ∷ [] → n ≡ kept_next r m → IsPut by to items after l n
put_on by to r items after l m n w p fits is on state =
    let e = put_entry l m p.puts.stands in
    let same : n ≡ kept_next true m = state ∙ ap (λ (b : Bool). kept_next b m) is in
    let peer : n.peer ≡ m.peer = ap (λ (x : LoopState). x.peer) same in
    let both : n ≡ kept_next true (with_entries (l.peer.entries ++ e ∷ []) l) = same ∙ ap (kept_next true) (put_same by to l m p) in
    record {
      choices = put_still by to l m n p peer;
      choice = subst (HasChoice l.peer) (sym peer) p.puts.stands;
      grows = put_goes by to r items after l m n w p fits on state;
      running = ap (λ (x : LoopState). x.phase) both ∙ w.steady.idle.running;
      kept = ap (λ (x : LoopState). x.kept) both ∙ (let k = w.steady.idle.kept in let long = length-append l.peer.entries (e ∷ []) in let z : l.kept + 1 ≡ length (l.peer.entries ++ e ∷ []) = omega (arith, k, long) in z) ∙ sym (ap (λ (x : LoopState). length x.peer.entries) both);
      table = ap (λ (x : LoopState). x.table) both;
      handled = ap (λ (x : LoopState). x.handled) both;
    }

-- and of the own frames that it lets be made
put_choices : (by to : Chooser) (r : Result (Unit {0}) Stop) (items mid after : List Item) (l n o : LoopState) → IsPut by to items mid l n → Advances r mid after n o → ChoosesIn by to false l o
put_choices by to r items mid after l n o p a = chooses_goes by to false mid after l n o p.grows.setting p.choices a.goes

clean_chose : (game : Game) (h : List Entry) (t : ℕ) (m : Move) (n : Nonce) → is_clean game (h ++ Chose t m n ∷ []) ≡ is_clean game h
unfolding is_clean
clean_chose game h t m n = ap (is_empty {X = Finding}) (findings_chose game h t m n)

chosen_stands : (u : Unit {0}) (by to : Chooser) (items mid after : List Item) (l n o : LoopState) → IsPlaying items l → IsPut by to items mid l n → Advances (Ok u) mid after n o → HasChosen l o
chosen_stands u by to items mid after l n o w p a =
    let all = grows_goes items mid after l n o p.grows a.goes in
    let me : o.peer.me ≡ l.peer.me = ap (λ (s : Setting). s.me) all.setting in
    let t = length (chosen l.peer.me l.peer.entries) in
    let c = p.choice in
    let es = l.peer.entries ++ Chose t c.mv c.nonce ∷ [] in
    let entries : o.peer.entries ≡ advance l.peer.game l.peer.me es = a.entries ∙ ap (λ (q : PeerState). advance q.game q.me q.entries) c.state in
    record {
      steady = record {
        idle = record {
          running = a.stands.0;
          kept = a.stands.1.kept;
          waiting = ap (λ (x : Table). x.waiting) (a.table ∙ p.table) ∙ w.steady.idle.waiting;
          handled = a.handled ∙ p.handled ∙ w.steady.idle.handled;
        };
        made = a.stands.1.made;
      };
      table = a.table ∙ p.table;
      clean = ap (λ (g : Game). is_clean g o.peer.entries) (ap (λ (s : Setting). s.game) all.setting) ∙ ap (is_clean l.peer.game) entries ∙ clean_advance l.peer.game l.peer.me es ∙ clean_chose l.peer.game l.peer.entries t c.mv c.nonce;
      one = ap (λ (q : ℕ). length (chosen q o.peer.entries)) me ∙ ap (λ (xs : List Entry). length (chosen l.peer.me xs)) entries ∙ ap (λ (os : List Opening). length os) (chosen_made l.peer.game l.peer.me es) ∙ chosen_one l.peer.me l.peer.entries t c.mv c.nonce;
    }

pub choose_ends : (by to : Chooser) (r : Result (Unit {0}) Stop) (items mid after : List Item) (l n o : LoopState) → IsPlaying items l → IsPut by to items mid l n → Advances r mid after n o → Chooses by to r items after l o
choose_ends by to (Ok u) items mid after l n o w p a = record {
  refused = false;
  refuses = refl;
  choices = put_choices by to (Ok u) items mid after l n o p a;
  grows = grows_goes items mid after l n o p.grows a.goes;
  stands = chosen_stands u by to items mid after l n o w p a;
}
choose_ends by to (Err stop) items mid after l n o w p a = record {
  refused = false;
  refuses = (faulty_unchosen stop o a.stands).refuses;
  choices = put_choices by to (Err stop) items mid after l n o p a;
  grows = grows_goes items mid after l n o p.grows a.goes;
  stands = faulty_stops by.plan stop o a.stands;
}

-- ---- one move after another

pub record Choosing (by to : Chooser) (before items : List Item) (l m : LoopState) : Type 0 where
  pub choices : ChoosesIn by to false l m
  pub grows : Grows before items l m
  pub table : m.table ≡ l.table
  pub clean : is_clean m.peer.game m.peer.entries ≡ is_clean l.peer.game l.peer.entries
  pub steady : IsSteady m

pub choosing_first : (by : Chooser) (items : List Item) (l : LoopState) → IsPlaying items l → Choosing by by items items l l
choosing_first by items l w =
    let still = goes_still items l w.told in
    record { choices = chooses_none by items items l l still; grows = grows items items l l still; table = refl; clean = refl; steady = w.steady }

pub choosing_playing : (by to : Chooser) (before items : List Item) (l m : LoopState) → Choosing by to before items l m → IsPlaying items m
choosing_playing by to before items l m w = record { told = w.grows.told; steady = w.steady }

pub choosing_on : (u : Unit {0}) (by mid to : Chooser) (before items after : List Item) (l m n : LoopState) → Choosing by mid before items l m → Chooses mid to (Ok u) items after m n → Choosing by to before after l n
choosing_on u by mid to before items after l m n w c = record {
  choices = chooses_then by mid to false l m n w.grows.setting w.choices (subst (λ (b : Bool). ChoosesIn mid to b m n) c.refuses c.choices);
  grows = grows_then before items after l m n w.grows c.grows;
  table = c.stands.table ∙ w.table;
  clean = c.stands.clean ∙ w.clean;
  steady = c.stands.steady;
}

pub choosing_smaller : (u : Unit {0}) (mid to : Chooser) (items after : List Item) (m n : LoopState) → Chooses mid to (Ok u) items after m n → length (chosen n.peer.me n.peer.entries) ≤ n.peer.game.turns →
    n.peer.game.turns - length (chosen n.peer.me n.peer.entries) < m.peer.game.turns - length (chosen m.peer.me m.peer.entries)
choosing_smaller u mid to items after m n c few =
    let one = c.stands.one in
    let turns : n.peer.game.turns ≡ m.peer.game.turns = ap (λ (s : Setting). s.game.turns) c.grows.setting in
    omega (arith, one, turns, few)

pub choosing_ends : (by to : Chooser) (r : Bool) (before items : List Item) (l m : LoopState) → Choosing by to before items l m → r ≡ may_choose m.peer.game m.peer.me m.peer.entries → r ≡ false → Plays by to (Ok tt) before items l m
choosing_ends by to r before items l m w is none = record {
  refused = false;
  refuses = refl;
  choices = w.choices;
  grows = w.grows;
  stands = record { steady = w.steady; table = w.table; clean = w.clean; all = sym is ∙ none };
}

pub choosing_stops : (stop : Stop) (by mid to : Chooser) (before items after : List Item) (l m n : LoopState) → Choosing by mid before items l m → Chooses mid to (Err stop) items after m n → Plays by to (Err stop) before after l n
choosing_stops stop by mid to before items after l m n w c = record {
  refused = c.refused;
  refuses = c.refuses;
  choices = chooses_then by mid to c.refused l m n w.grows.setting w.choices c.choices;
  grows = grows_then before items after l m n w.grows c.grows;
  stands = subst (λ (plan : Option Plan). StandsStopped plan stop n) w.choices.plan c.stands;
}
