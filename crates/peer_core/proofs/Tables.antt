-- Tables: what a peer keeps of the other players, as the log grows.
use Rattle.std.proofs.Common.{◌≡◌, ℕ, ◌+◌, ◌<◌, List, [], ◌∷◌, ◌++◌, refl, Bool, true, false, sym, ◌∙◌, ap, subst, arith, length, get_or, set, length-set, get_or-set_same, get_or-set_other, replicate}
use Rattle.std.specs.Prelude.{◌*◌, ◌==◌, if◌then◌else◌}
use Rattle.std.proofs.lemmas.List.{get_or-replicate, length-replicate}
use Rattle.std.proofs.lemmas.Bool.{eqb-true, eqb-false, ne_eqb, false≢true}
use Rattle.definitions.specs.declared.world.Cell.{Cell}
use Rattle.definitions.specs.declared.world.Move.{Move}
use Rattle.definitions.specs.declared.openings.Nonce.{Nonce}
use Rattle.definitions.specs.declared.frames.TurnFrame.{TurnFrame}
use Rattle.definitions.specs.declared.logs.Entry.{Entry}
use Rattle.definitions.specs.declared.logs.Entry.TheVariants.{Chose, Made, Got}
use Rattle.definitions.specs.declared.findings.Finding.{Finding}
use Rattle.definitions.specs.Lists.{item_or, is_empty, EachIs}
use Rattle.definitions.specs.World.{Game, players_of, is_open}
use Rattle.definitions.specs.Moves.{track_after}
use Rattle.definitions.specs.Findings.{findings, is_clean}
use Rattle.definitions.specs.Answers.{got_answer, is_of_another}
use Rattle.definitions.specs.Steps.{is_taken_in}
use Rattle.definitions.specs.declared.world.Track.{Track}
use Rattle.definitions.proofs.Items.{item_is}
use Rattle.definitions.specs.Logs.{got_of}
use Rattle.definitions.specs.Held.{Known as Shown, known, places_in}
use Rattle.definition_laws.proofs.ForPeers.{known_without_got}
use Rattle.definition_laws.proofs.Windows.{known_made, known_chose, known_got_other}
use Rattle.definition_laws.proofs.Silent.{findings_made, findings_chose}
use Rattle.grid_world.specs.Sessions.{IsSession}
use Rattle.peer_window.specs.declared.received.Received.{Received}
use Rattle.peer_window.specs.declared.received.Offer.{Offer}
use Rattle.peer_window.specs.declared.received.Offer.TheVariants as O
use Rattle.peer_window.specs.Slots.{frames_in}
use Rattle.peer_window.specs.Windows.{Seen, IsWindow, answer, frames_after, is_conflict}
use Rattle.peer_window.specs.Logged.{answer_of_offer, received_from, received_in}
use Rattle.peer_window.proofs.Tied.{shows_log, received_below, received_one_more, received_another, answers_log}
use Rattle.dilation.specs.Dilated.{starts_of}
use Rattle.wait_rule.specs.declared.views.View.{View}
use Rattle.wait_rule.specs.Waiting.{no_view}
use Rattle.wait_rule.specs.declared.meeting.Meeting.{Meeting}
use Rattle.wait_rule.specs.Spheres.{IsMeeting, cells_in}
use Rattle.wait_rule.specs.Shown.{AreViews, AreLastCells, IsView}
use Rattle.wait_rule.proofs.ForPeers.{last_cells_start, last_cells_set, last_cells_same}
use Rattle.peer_core.specs.declared.views.PlayerView.{PlayerView}
use Rattle.peer_core.specs.Answers.{is_logged}
use Rattle.peer_core.specs.Views.{player_view, with_got}
use Rattle.peer_core.specs.Others.{Known, AreOthers, AreOpened, IsOpened, IsWindowOf, view_of}
use Rattle.peer_core.proofs.Answering.{logged_is, caught_dirty}
use Rattle.definition_laws.proofs.Tracks.{known_to_open}
use Rattle.definition_laws.proofs.Room.{other_player}
use Rattle.grid_world.proofs.Facts.{seat_open}

-- what a window shows is what the log shows
pub window_known : (game : Game) (me q : ℕ) (h : List Entry) (w : Seen) → IsWindowOf game me h q w → w.known ≡ known game me h q
window_known game me q h w o = shows_log game me h w o.window o.offered ∙ ap (λ k. known game me h k) o.player

pub window_track : (game : Game) (me q : ℕ) (h : List Entry) (w : Seen) → IsWindowOf game me h q w → w.track ≡ track_after game q (known game me h q).moves
window_track game me q h w o =
    let window = o.window in
    window.track ∙ ap (λ k. track_after game k w.known.moves) o.player ∙ ap (λ (k : Shown). track_after game q k.moves) (window_known game me q h w o)

-- an opened window, beside a log without entries
pub opened_of : (game : Game) (me q : ℕ) (w : Seen) → (q ≡ me → ⊥) → IsOpened game q w → IsWindowOf game me [] q w
opened_of game me q w other o = record {
  window = o.window;
  player = o.player;
  offered = record { other = λ e. other (sym o.player ∙ e); frames = o.empty };
  still = λ c. o.still;
}

pub opened_view : (game : Game) (me q : ℕ) (w : Seen) → (q ≡ me → ⊥) → IsOpened game q w → no_view ≡ view_of w
unfolding got_of
opened_view game me q w other o =
    let none : w.known ≡ record { digests = []; moves = [] } = window_known game me q [] w (opened_of game me q w other o) ∙ known_without_got game me q [] other refl in
    let of_known : Shown → View = λ k. record { resolved = length k.moves; next = length k.digests + length k.moves; commits = length k.digests } in
    ap of_known (sym none)

-- nothing came yet
pub others_new : (game : Game) (me : ℕ) (ws : List Seen) (vs : List View) (rule : Meeting) → AreOpened game ws → vs ≡ replicate (players_of game) no_view → IsMeeting game rule → cells_in rule ≡ starts_of game →
    AreOthers game me [] (record { windows = ws; views = vs; rule = rule })
unfolding got_of
others_new game me ws vs rule o v made at = record {
  count = o.count;
  each = λ q d lt other. opened_of game me q (get_or ws q d) other (o.each q d lt);
  count_views = ap (λ (xs : List View). length xs) v ∙ length-replicate (players_of game) no_view;
  views_are = λ q d x lt other. ap (λ (xs : List View). get_or xs q x) v ∙ get_or-replicate (players_of game) q no_view x lt ∙ opened_view game me q (get_or ws q d) other (o.each q d lt);
  rule_is = made;
  cells_are = subst (λ (cs : List Cell). AreLastCells game me [] cs) (sym at) (last_cells_start game me [] (λ q other. ap (λ (k : Shown). k.moves) (known_without_got game me q [] other refl)));
}

-- an entry that brought nothing changes nothing of the tables
others_same : (game : Game) (me : ℕ) (h : List Entry) (e : Entry) (o : Known) → ((q : ℕ) → received_in q (length h) e ≡ []) → ((q : ℕ) → (q ≡ me → ⊥) → known game me (h ++ e ∷ []) q ≡ known game me h q) →
    is_clean game (h ++ e ∷ []) ≡ is_clean game h → AreOthers game me h o → AreOthers game me (h ++ e ∷ []) o
others_same game me h e o none same clean a = record {
  count = a.count;
  each = λ q d lt other. window q (get_or o.windows q d) (a.each q d lt other);
  count_views = a.count_views;
  views_are = a.views_are;
  rule_is = a.rule_is;
  cells_are = last_cells_same game me h (h ++ e ∷ []) (cells_in o.rule) a.cells_are (λ q other. ap (λ (k : Shown). (track_after game q k.moves).at) (same q other));
}
  where
    window : (q : ℕ) (w : Seen) → IsWindowOf game me h q w → IsWindowOf game me (h ++ e ∷ []) q w
    window q w i =
        let offered = i.offered in record {
          window = i.window;
          player = i.player;
          offered = record { other = offered.other; frames = offered.frames ∙ sym (received_another w.player h e (none w.player)) };
          still = λ c. i.still (sym clean ∙ c);
        }

same_clean : (game : Game) (g h : List Entry) → findings game (g ∷ []) ≡ findings game (h ∷ []) → is_clean game g ≡ is_clean game h
unfolding is_clean
same_clean game g h e = ap (is_empty {X = Finding}) e

pub others_made : (game : Game) (me : ℕ) (h : List Entry) (f : TurnFrame) (o : Known) → AreOthers game me h o → AreOthers game me (h ++ Made f ∷ []) o
others_made game me h f o a =
    others_same game me h (Made f) o (λ q. refl) (λ q other. known_made game me q h f other) (same_clean game (h ++ Made f ∷ []) h (findings_made game h f)) a

pub others_chose : (game : Game) (me t : ℕ) (h : List Entry) (m : Move) (n : Nonce) (o : Known) → AreOthers game me h o → AreOthers game me (h ++ Chose t m n ∷ []) o
others_chose game me t h m n o a =
    others_same game me h (Chose t m n) o (λ q. refl) (λ q other. known_chose game me q t h m n) (same_clean game (h ++ Chose t m n ∷ []) h (findings_chose game h t m n)) a

-- what a window has of a log, with one frame of its player more or without it
pub offered_after : (game : Game) (me q : ℕ) (h : List Entry) (f : TurnFrame) (w : Seen) (a : Offer) → w.player ≡ q → w.frames ≡ received_from w.player 0 h → is_logged (answer_of_offer a) ≡ is_taken_in game me h q f →
    frames_after w (record { entry = length h; frame = f }) a ≡ received_from w.player 0 (with_got game me h q f)
offered_after game me q h f w a player frames logged = by_offer a (is_taken_in game me h q f) logged
  where
    more : w.frames ++ record { entry = length h; frame = f } ∷ [] ≡ received_from w.player 0 (h ++ Got q f ∷ [])
    more =
        ap (λ (rs : List Received). rs ++ record { entry = length h; frame = f } ∷ []) frames ∙ sym (received_one_more w.player h f) ∙ ap (λ k. received_from w.player 0 (h ++ Got k f ∷ [])) player

    by_offer : (a : Offer) (b : Bool) → is_logged (answer_of_offer a) ≡ b → frames_after w (record { entry = length h; frame = f }) a ≡ received_from w.player 0 (if b then h ++ Got q f ∷ [] else h)
    by_offer O.Taken true e = more
    by_offer O.Taken false e = absurd (false≢true (sym e))
    by_offer O.Stashed true e = more
    by_offer O.Stashed false e = absurd (false≢true (sym e))
    by_offer (O.Conflict c) true e = more
    by_offer (O.Conflict c) false e = absurd (false≢true (sym e))
    by_offer O.Same true e = absurd (false≢true e)
    by_offer O.Same false e = frames
    by_offer O.Far true e = absurd (false≢true e)
    by_offer O.Far false e = frames

-- a window that makes no clash goes on
closed_after : (game : Game) (me q : ℕ) (h : List Entry) (f : TurnFrame) (a : Offer) (closed : Bool) → answer_of_offer a ≡ got_answer game me h q f → closed ≡ is_conflict a → is_clean game (with_got game me h q f) ≡ true → closed ≡ false
closed_after game me q h f O.Taken closed e c clean = c
closed_after game me q h f O.Stashed closed e c clean = c
closed_after game me q h f O.Same closed e c clean = c
closed_after game me q h f O.Far closed e c clean = c
closed_after game me q h f (O.Conflict x) closed e c clean = absurd (false≢true (sym (caught_dirty game me h q f _ (sym e)) ∙ clean))

-- the tables after a frame of a player was offered
pub others_offered : (game : Game) (me p : ℕ) (h : List Entry) (f : TurnFrame) (o : Known) (d w : Seen) (a : Offer) (v : View) (cell : Cell) (rule : Meeting) → p < players_of game → (p ≡ me → ⊥) → is_clean game h ≡ true →
    is_of_another game me p f ≡ true → length (cells_in o.rule) ≡ players_of game → AreOthers game me h o → a ≡ answer game (get_or o.windows p d) (record { entry = length h; frame = f }) →
    w.frames ≡ frames_after (get_or o.windows p d) (record { entry = length h; frame = f }) a → IsWindow game w → w.player ≡ (get_or o.windows p d).player → w.closed ≡ is_conflict a → v ≡ view_of w → cell ≡ w.track.at →
    IsMeeting game rule → cells_in rule ≡ set (cells_in o.rule) p cell → (answer_of_offer a ≡ got_answer game me h p f) × AreOthers game me (with_got game me h p f) (record { windows = set o.windows p w; views = set o.views p v; rule = rule })
others_offered game me p h f o d w a v cell rule lt other clean another seen all is frames window player closed view at made told = (
  answered,
  record {
    count = length-set o.windows p w ∙ all.count;
    each = λ q e l apart. window_by q e l apart (q == p) refl;
    count_views = length-set o.views p v ∙ all.count_views;
    views_are = λ q e x l apart. view_by q e x l apart (q == p) refl;
    rule_is = made;
    cells_are = subst (λ (cs : List Cell). AreLastCells game me log cs) (sym told)
        (last_cells_set game me h log (cells_in o.rule) p cell all.cells_are seen lt (at ∙ ap (λ t. t.at) (window_track game me p log w here)) (λ q differs apart. ap (λ (k : Shown). (track_after game q k.moves).at) (known_other q differs)));
  },
)
  where
    log : List Entry
    log = with_got game me h p f

    old : Seen
    old = get_or o.windows p d

    was : IsWindowOf game me h p old
    was = all.each p d lt other

    another_old : is_of_another game me old.player f ≡ true
    another_old = ap (λ k. is_of_another game me k f) (let i = was in i.player) ∙ another

    answered : answer_of_offer a ≡ got_answer game me h p f
    answered =
        let i = was in
        ap answer_of_offer is ∙ sym (answers_log game me h old f i.window i.offered clean another_old) ∙
        ap (λ k. got_answer game me h k f) i.player

    here : IsWindowOf game me log p w
    here =
        let i = was in
        let offered = i.offered in record {
          window = window;
          player = player ∙ i.player;
          offered = record {
            other = λ e. offered.other (sym player ∙ e);
            frames = frames ∙ offered_after game me p h f old a i.player offered.frames (ap is_logged answered ∙ logged_is game me h p f) ∙ ap (λ k. received_from k 0 log) (sym player);
          };
          still = λ c. closed_after game me p h f a w.closed answered closed c;
        }

    known_other : (q : ℕ) → (q ≡ p → ⊥) → known game me log q ≡ known game me h q
    known_other q differs = go (is_taken_in game me h p f)
      where
        go : (b : Bool) → known game me (if b then h ++ Got p f ∷ [] else h) q ≡ known game me h q
        go true = known_got_other game me q p h f (λ e. differs (sym e))
        go false = refl

    received_other : (q : ℕ) → (q ≡ p → ⊥) → received_from q 0 log ≡ received_from q 0 h
    received_other q differs = go (is_taken_in game me h p f)
      where
        go : (b : Bool) → received_from q 0 (if b then h ++ Got p f ∷ [] else h) ≡ received_from q 0 h
        go true = received_another q h (Got p f) (ap (λ (b : Bool). if b then record { entry = length h; frame = f } ∷ [] else []) (ne_eqb p q (λ e. differs (sym e))))
        go false = refl

    there : (q : ℕ) (x : Seen) → (q ≡ p → ⊥) → IsWindowOf game me h q x → IsWindowOf game me log q x
    there q x differs i =
        let offered = i.offered in record {
          window = i.window;
          player = i.player;
          offered = record { other = offered.other; frames = offered.frames ∙ sym (received_other x.player (λ e. differs (sym i.player ∙ e))) };
          still = λ c. i.still clean;
        }

    window_by : (q : ℕ) (e : Seen) → q < players_of game → (q ≡ me → ⊥) → (b : Bool) → (q == p) ≡ b → IsWindowOf game me log q (get_or (set o.windows p w) q e)
    window_by q e l apart true t =
        let same : q ≡ p = eqb-true q p t in
        let count = all.count in
        let at_p : get_or (set o.windows p w) q e ≡ w = ap (λ k. get_or (set o.windows p w) k e) same ∙ get_or-set_same o.windows p w e (omega arith) in
        subst (λ (x : Seen). IsWindowOf game me log q x) (sym at_p) (subst (λ k. IsWindowOf game me log k w) (sym same) here)
    window_by q e l apart false t =
        let differs : q ≡ p → ⊥ = eqb-false q p t in
        subst (λ (x : Seen). IsWindowOf game me log q x) (sym (get_or-set_other o.windows p q w e differs)) (there q (get_or o.windows q e) differs (all.each q e l apart))

    view_by : (q : ℕ) (e : Seen) (x : View) → q < players_of game → (q ≡ me → ⊥) → (b : Bool) → (q == p) ≡ b → get_or (set o.views p v) q x ≡ view_of (get_or (set o.windows p w) q e)
    view_by q e x l apart true t =
        let same : q ≡ p = eqb-true q p t in
        let count = all.count in
        let views = all.count_views in
        ap (λ k. get_or (set o.views p v) k x) same ∙ get_or-set_same o.views p v x (omega arith) ∙ view ∙ ap view_of (sym (ap (λ k. get_or (set o.windows p w) k e) same ∙ get_or-set_same o.windows p w e (omega arith)))
    view_by q e x l apart false t =
        let differs : q ≡ p → ⊥ = eqb-false q p t in
        get_or-set_other o.views p q v x differs ∙ all.views_are q e x l apart ∙ ap view_of (sym (get_or-set_other o.windows p q w e differs))

-- where a window's player stands is open
window_open : (game : Game) (w : Seen) → IsSession game → IsWindow game w → is_open game.grid w.track.at ≡ true
window_open game w is i =
    ap (λ (t : Track). is_open game.grid t.at) (i.track ∙ ap (λ (k : Shown). track_after game w.player k.moves) i.known) ∙ known_to_open game w.player (2 * game.turns) (frames_in w.frames) (seat_open game w.player is i.player)

-- the rule was asked, by which no player was seen elsewhere
pub others_asked : (game : Game) (me : ℕ) (h : List Entry) (o : Known) (rule : Meeting) → AreOthers game me h o → IsMeeting game rule → cells_in rule ≡ cells_in o.rule → AreOthers game me h (record { windows = o.windows; views = o.views; rule = rule })
others_asked game me h o rule a made stay = record {
  count = a.count;
  each = a.each;
  count_views = a.count_views;
  views_are = a.views_are;
  rule_is = made;
  cells_are = subst (λ (cs : List Cell). AreLastCells game me h cs) (sym stay) a.cells_are;
}

-- the views are those of the log
pub others_views : (game : Game) (me : ℕ) (h : List Entry) (o : Known) → AreOthers game me h o → AreViews game me h o.views
others_views game me h o a q lt other = view q lt other
  where
    blank : Seen
    blank = record { player = 0; places = 0; frames = []; known = record { digests = []; moves = [] }; track = record { at = record { x = 0; y = 0 }; charge = 0 }; closed = false }

    of_known : Shown → View
    of_known k = record { resolved = length k.moves; next = length k.digests + length k.moves; commits = length k.digests }

    view : (q : ℕ) → q < players_of game → (q ≡ me → ⊥) → IsView game me h q (item_or o.views q no_view)
    view q lt other =
        let w = get_or o.windows q blank in
        let at : item_or o.views q no_view ≡ of_known (known game me h q) =
        sym (item_is o.views q no_view) ∙ a.views_are q blank no_view lt other ∙ ap of_known (window_known game me q h w (a.each q blank lt other)) in
        subst (λ (v : View). IsView game me h q v) (sym at) (record { resolved_is = refl; next_is = refl; commits_is = refl })

-- what a window tells of its player
pub window_view : (game : Game) (me q : ℕ) (h : List Entry) (w : Seen) → IsWindowOf game me h q w →
    record { turns = length w.known.moves; track = w.track; next = length w.known.digests + length w.known.moves } ≡ player_view game me h q
window_view game me q h w o =
    let with_known : Shown → PlayerView = λ k. record { turns = length k.moves; track = w.track; next = length k.digests + length k.moves } in
    ap with_known (window_known game me q h w o) ∙
    ap (λ t. record { turns = length (known game me h q).moves; track = t; next = length (known game me h q).digests + length (known game me h q).moves }) (window_track game me q h w o)

-- while the windows are opened: the first players have one
pub record AreOpening (game : Game) (n : ℕ) (ws : List Seen) : Type 0 where
  pub count : length ws ≡ n
  pub each : (q : ℕ) (d : Seen) → q < n → IsOpened game q (get_or ws q d)

-- the entries that a window was offered stand below the log's next
pub offered_below : (game : Game) (me q : ℕ) (h : List Entry) (w : Seen) → IsWindowOf game me h q w → EachIs (λ r. r.entry < length h) w.frames
offered_below game me q h w o =
    let offered = o.offered in
    let none : 0 + length h ≡ length h = omega arith in
    subst (λ (rs : List Received). EachIs (λ r. r.entry < length h) rs) (sym offered.frames) (subst (λ n. EachIs (λ r. r.entry < n) (received_from w.player 0 h)) none (received_below w.player 0 h))

-- what the tables tell of another player
pub others_player : (game : Game) (me q i : ℕ) (h : List Entry) (o : Known) (d w : Seen) (n m : ℕ) (t : Track) → AreOthers game me h o → q < players_of game → (q ≡ me → ⊥) → i ≡ q → w ≡ get_or o.windows i d →
    n ≡ length w.known.moves → t ≡ w.track → m ≡ places_in w.known → record { turns = n; track = t; next = m } ≡ player_view game me h q
others_player game me q i h o d w n m t all lt other e at turns track next =
    let Is : Seen → Type 0 = λ x. IsWindowOf game me h q x in
    let of : IsWindowOf game me h q w = subst Is (sym (at ∙ ap (λ k. get_or o.windows k d) e)) (all.each q d lt other) in
    let with_turns : ℕ → PlayerView = λ k. record { turns = k; track = t; next = m } in
    let with_track : Track → PlayerView = λ k. record { turns = length w.known.moves; track = k; next = m } in
    let with_next : ℕ → PlayerView = λ k. record { turns = length w.known.moves; track = w.track; next = k } in
    ap with_turns turns ∙ ap with_track track ∙ ap with_next next ∙ window_view game me q h w of

-- an offer to the window at a place of the table
pub others_offered_at : (game : Game) (me p i : ℕ) (h : List Entry) (f : TurnFrame) (o : Known) (d w : Seen) (a : Offer) (v : View) (cell : Cell) (rule : Meeting) → i ≡ p → p < players_of game → (p ≡ me → ⊥) →
    is_clean game h ≡ true → is_of_another game me p f ≡ true → length (cells_in o.rule) ≡ players_of game → AreOthers game me h o → a ≡ answer game (get_or o.windows i d) (record { entry = length h; frame = f }) →
    w.frames ≡ frames_after (get_or o.windows i d) (record { entry = length h; frame = f }) a → IsWindow game w → w.player ≡ (get_or o.windows i d).player → w.closed ≡ is_conflict a → v ≡ view_of w → cell ≡ w.track.at →
    IsMeeting game rule → cells_in rule ≡ set (cells_in o.rule) p cell → (answer_of_offer a ≡ got_answer game me h p f) × AreOthers game me (with_got game me h p f) (record { windows = set o.windows i w; views = set o.views i v; rule = rule })
others_offered_at game me p i h f o d w a v cell rule e lt other clean another seen all is frames window player closed view at made told =
    let old : ℕ → Seen = λ k. get_or o.windows k d in
    let r : Received = record { entry = length h; frame = f } in
    let got = others_offered game me p h f o d w a v cell rule lt other clean another seen all (is ∙ ap (λ k. answer game (old k) r) e) (frames ∙ ap (λ k. frames_after (old k) r a) e) window
    (player ∙ ap (λ k. (old k).player) e) closed view at made told in
    let Are : ℕ → Type 0 = λ k. AreOthers game me (with_got game me h p f) (record { windows = set o.windows k w; views = set o.views k v; rule = rule }) in
    (got.0, subst Are (sym e) got.1)

-- the window of another player at a place of the table
pub window_at : (game : Game) (me p i : ℕ) (h : List Entry) (o : Known) (d : Seen) → i ≡ p → p < players_of game → (p ≡ me → ⊥) → AreOthers game me h o → IsWindowOf game me h p (get_or o.windows i d)
window_at game me p i h o d e lt other all = let Is : ℕ → Type 0 = λ k. IsWindowOf game me h p (get_or o.windows k d) in subst Is (sym e) (all.each p d lt other)

-- the window that a frame was offered to is at its place
pub window_set : (i : ℕ) (ws : List Seen) (w d : Seen) → i < length ws → get_or (set ws i w) i d ≡ w
window_set i ws w d lt = get_or-set_same ws i w d lt

-- an offer to the window that was found at a place of the table
pub offered_there : (game : Game) (me p i : ℕ) (h : List Entry) (f : TurnFrame) (o : Known) (old w : Seen) (a : Offer) (v : View) (cell : Cell) (rule : Meeting) → i ≡ p → is_clean game h ≡ true → is_of_another game me p f ≡ true →
    length (cells_in o.rule) ≡ players_of game → AreOthers game me h o → old ≡ get_or o.windows i old → a ≡ answer game old (record { entry = length h; frame = f }) → w.frames ≡ frames_after old (record { entry = length h; frame = f }) a →
    IsWindow game w → w.player ≡ old.player → w.closed ≡ is_conflict a → v ≡ view_of w → cell ≡ w.track.at → IsMeeting game rule → cells_in rule ≡ set (cells_in o.rule) p cell →
    (answer_of_offer a ≡ got_answer game me h p f) × AreOthers game me (with_got game me h p f) (record { windows = set o.windows i w; views = set o.views i v; rule = rule })
offered_there game me p i h f o old w a v cell rule e clean another seen all there is frames window player closed view at made told =
    let from = other_player game me p f another in
    let r : Received = record { entry = length h; frame = f } in
    others_offered_at game me p i h f o old w a v cell rule e from.0 from.1 clean another seen all (is ∙ ap (λ (x : Seen). answer game x r) there) (frames ∙ ap (λ (x : Seen). frames_after x r a) there) window
    (player ∙ ap (λ (x : Seen). x.player) there) closed view at made told

-- what is read at the place of the window after the offer is that window
pub offered_read : (game : Game) (me p i : ℕ) (h : List Entry) (f : TurnFrame) (o : Known) (w x : Seen) → i ≡ p → is_of_another game me p f ≡ true → AreOthers game me h o → x ≡ get_or (set o.windows i w) i x → x ≡ w
offered_read game me p i h f o w x e another all read =
    let from = other_player game me p f another in
    let lt = from.0 in
    let count = all.count in
    read ∙ window_set i o.windows w x (omega arith)

-- where the player stands after the offer is open
pub offered_open : (game : Game) (me p i : ℕ) (h : List Entry) (f : TurnFrame) (o : Known) (w x : Seen) (t : Track) → IsSession game → i ≡ p → is_of_another game me p f ≡ true → AreOthers game me h o → IsWindow game w →
    x ≡ get_or (set o.windows i w) i x → t ≡ x.track → is_open game.grid t.at ≡ true
offered_open game me p i h f o w x t is e another all window read track =
    let same : x ≡ w = offered_read game me p i h f o w x e another all read in
    subst (λ (k : Track). is_open game.grid k.at ≡ true) (sym (track ∙ ap (λ (k : Seen). k.track) same)) (window_open game w is window)
