-- Peers: what follows from an honest log for a peer's tables.
use Rattle.std.proofs.Common.{◌≡◌, ℕ, ◌+◌, ◌-◌, ◌*◌, ◌≤◌, ◌<◌, List, [], ◌∷◌, ◌++◌, refl, true, false, sym, ◌∙◌, ap, subst, arith, length, get_or, append-nil, length-append}
use Rattle.std.specs.Prelude.{Option, Some, None, is_none, is_some, map, slice_get}
use Rattle.std.proofs.lemmas.List.{length-map, map-append, take_all}
use Rattle.std.proofs.lemmas.Bool.{false≢true}
use Rattle.definitions.specs.declared.world.Move.{Move}
use Rattle.definitions.specs.declared.world.Track.{Track}
use Rattle.definitions.specs.declared.world.MoveFault.{MoveFault}
use Rattle.definitions.specs.declared.openings.Nonce.{Nonce}
use Rattle.definitions.specs.declared.openings.Opening.{Opening}
use Rattle.definitions.specs.declared.frames.TurnFrame.{TurnFrame}
use Rattle.definitions.specs.declared.logs.Entry.{Entry}
use Rattle.definitions.specs.declared.logs.Entry.TheVariants.{Chose, Made, Got}
use Rattle.definitions.specs.declared.answers.Need.{Need}
use Rattle.definitions.specs.World.{Game, players_of}
use Rattle.definitions.specs.Moves.{start_track, track_from, track_after, next_track, move_fault, is_legal}
use Rattle.definitions.specs.declared.findings.Finding.{Finding}
use Rattle.definitions.specs.declared.answers.GotAnswer.{GotAnswer}
use Rattle.definitions.specs.Logs.{made, made_in, chosen, chosen_in, got_of}
use Rattle.definitions.specs.Findings.{is_clean}
use Rattle.definitions.specs.Answers.{got_answer}
use Rattle.definitions.specs.Held.{known, resolved_count, next_place}
use Rattle.definitions.specs.Honest.{IsHonest, made_count, chosen_track}
use Rattle.definitions.specs.Needs.{needs, may_choose}
use Rattle.definitions.specs.Advance.{next_made}
use Rattle.definition_laws.proofs.ForPeers.{own_next, own_moves, own_counts, honest_empty, honest_push, clean_without_got}
use Rattle.definition_laws.proofs.Silent.{findings_made, findings_chose}
use Rattle.definition_laws.specs.First.{finding_of_log}
use Rattle.definition_laws.specs.Fits.{room_of}
use Rattle.definition_laws.specs.Replies.{refusal}
use Rattle.definition_laws.proofs.Replied.{log_stays_honest}
use Rattle.definition_laws.proofs.Room.{clean_none, logs_fit, room_small}
use Rattle.definition_laws.proofs.FirstFinding.{clean_is_none}
use Rattle.definition_laws.proofs.Waits.{may_choose_allowed}
use Rattle.definition_laws.proofs.Advances.{next_made_allowed}
use Rattle.definition_laws.proofs.Listing.{flat_map_append}
use Rattle.grid_world.specs.Sessions.{IsSession}
use Rattle.peer_core.specs.OwnTracks.{AreOwnTracks, tracks_from}
use Rattle.peer_core.specs.Others.{Known, AreOthers}
use Rattle.peer_core.proofs.Tables.{others_made, others_chose}
use Rattle.peer_core.specs.declared.views.Choice.{Choice}
use Rattle.peer_core.specs.Answers.{is_logged}
use Rattle.peer_core.specs.Views.{PeerState, choice_of, player_view, with_got}
use Rattle.peer_core.proofs.Answering.{got_logged, got_unlogged}
use Rattle.peer_core.specs.declared.views.PlayerView.{PlayerView}
use Rattle.peer_core.specs.Standing.{IsStanding}
use Rattle.peer_core.specs.Inside.{IsPeer, HasRoom}
use Rattle.peer_core.proofs.OwnTracks.{tracks-length, tracks-at, tracks-push, own_revealed}
use Rattle.definition_laws.proofs.Standing.{made_count_most}
use Rattle.grid_world.specs.Places.{reveals_below}
use Rattle.grid_world.proofs.Reveals.{ahead_least}

-- a peer's tables, by what the log says
pub peer_of : (game : Game) (me : ℕ) (h : List Entry) (os : List Opening) (fs : List TurnFrame) (ts : List Track) (others : Known) (found : Option Finding) (ns : List Need) → IsSession game →
    me < players_of game → IsHonest game me h → os ≡ chosen me h → fs ≡ made h → AreOwnTracks game me h ts → AreOthers game me h others → found ≡ finding_of_log game h →
    ns ≡ needs game me h → IsPeer game me h os fs ts others found ns
peer_of game me h os fs ts others found ns is lt i o f t s e n =
    let counts = own_counts game me h (ahead_least game is) i in
    let few = counts.few in
    let made_are = made_count_most game me h (ahead_least game is) i in
    let turns = is.turns in
    let lo = ap length o in
    let lf = ap length f in
    let lts = ap length t ∙ tracks-length game (start_track game me) (map (λ o. o.mv) (chosen me h)) in
    let lm = length-map (chosen me h) (λ o. o.mv) in
    record {
      player = lt;
      honest = i;
      openings_are = o;
      frames_are = f;
      tracks_are = t;
      others_are = s;
      found_is = e;
      needs_are = n;
      few_openings = omega arith;
      few_frames = omega arith;
      few_turns = omega arith;
      tracked = omega arith;
      revealed = own_revealed game me h (ahead_least game is) i ∙ ap (reveals_below game) (sym lf);
    }

-- the last track is that after all that was chosen
pub last_track : (game : Game) (me : ℕ) (h : List Entry) (os : List Opening) (ts : List Track) (d : Track) → os ≡ chosen me h → AreOwnTracks game me h ts →
    get_or ts (length os) d ≡ chosen_track game me h
last_track game me h os ts d o t =
    let ms : List Move = map (λ o. o.mv) (chosen me h) in
    let n : length os ≡ length ms = ap length o ∙ sym (length-map (chosen me h) (λ o. o.mv)) in
    ap (λ (xs : List Track). get_or xs (length os) d) t ∙ tracks-at game (start_track game me) ms (length os) d (omega arith) ∙
    ap (track_from game (start_track game me)) (take_all (length os) ms (omega arith))

pub choice_is : (game : Game) (me : ℕ) (h : List Entry) (os : List Opening) (ts : List Track) (n : ℕ) (t : Track) → os ≡ chosen me h → AreOwnTracks game me h ts →
    n ≡ length os → t ≡ get_or ts n t → choice_of game me h ≡ record { turn = n; track = t }
choice_is game me h os ts n t o a e f =
    let at_turn : ℕ → Choice = λ k. record { turn = k; track = chosen_track game me h } in
    let at_track : Track → Choice = λ d. record { turn = n; track = d } in
    let here : t ≡ chosen_track game me h = f ∙ ap (λ k. get_or ts k t) e ∙ last_track game me h os ts t o a in
    ap at_turn (sym (e ∙ ap length o)) ∙ ap at_track (sym here)

pub made_empty : 0 ≡ made_count []
unfolding made
made_empty = refl

pub tracks_empty : (game : Game) (me : ℕ) (t : Track) (ts : List Track) → t ≡ start_track game me → ts ≡ t ∷ [] → AreOwnTracks game me [] ts
unfolding chosen
tracks_empty game me t ts e f = f ∙ ap (λ (x : Track). x ∷ []) e

pub chosen_empty : (me : ℕ) → [] ≡ chosen me []
unfolding chosen
chosen_empty me = refl

pub frames_empty : [] ≡ made []
unfolding made
frames_empty = refl

-- a log without entries has no finding
pub found_empty : (game : Game) → None ≡ finding_of_log game []
unfolding got_of
found_empty game = ap (λ (fs : List Finding). slice_get fs 0) (sym (clean_none game [] (clean_without_got game [] (λ q. refl))))

-- a new peer's tables
pub peer_new : (game copy : Game) (me : ℕ) (h g : List Entry) (os : List Opening) (fs : List TurnFrame) (t : Track) (ts : List Track) (others : Known) (ns : List Need)
    → IsSession game → me < players_of game → copy ≡ game → h ≡ [] → g ≡ h → os ≡ [] → fs ≡ [] → t ≡ start_track game me → ts ≡ t ∷ [] → AreOthers game me [] others →
    ns ≡ needs game me g → IsPeer copy me h os fs ts others None ns
peer_new game copy me h g os fs t ts others ns is lt same none seen o f e k s n =
    let IsGame : Game → Type 0 = λ c. IsPeer c me h os fs ts others None ns in
    let IsLog : List Entry → Type 0 = λ l. IsPeer game me l os fs ts others None ns in
    let needs_are : ns ≡ needs game me [] = n ∙ ap (needs game me) (seen ∙ none) in
    subst IsGame (sym same) (subst IsLog (sym none)
    (peer_of game me [] os fs ts others None ns is lt (honest_empty game me) (o ∙ chosen_empty me) (f ∙ frames_empty) (tracks_empty game me t ts e k) s (found_empty game) needs_are))

-- a new peer's room
pub room_new : (game copy : Game) (turns others e o f t : ℕ) → copy ≡ game → turns ≡ game.turns → others ≡ players_of game - 1 →
    3 * turns + 2 * turns * others + 1 ≤ e → turns ≤ o → 2 * turns ≤ f → turns + 1 ≤ t → HasRoom copy e o f t
room_new game copy turns others e o f t same a b p q r s =
    let IsGame : Game → Type 0 = λ g. HasRoom g e o f t in
    let with_turns : ℕ → ℕ = λ n. 3 * n + 2 * n * others + 1 in
    let with_others : ℕ → ℕ = λ n. 3 * game.turns + 2 * game.turns * n + 1 in
    let all : 3 * turns + 2 * turns * others + 1 ≡ room_of game + 1 = ap with_turns a ∙ ap with_others b in
    subst IsGame (sym same) (record {
      entries_fit = omega arith;
      openings_fit = omega arith;
      frames_fit = omega arith;
      tracks_fit = omega arith;
    })

-- there is room for an entry with which the log is honest
pub entry_room : (game : Game) (me : ℕ) (h : List Entry) (e : Entry) (room : ℕ) → IsSession game → me < players_of game → IsHonest game me (h ++ e ∷ []) → room_of game + 1 ≤ room → length h < room
entry_room game me h e room is my i fits =
    let few = logs_fit game me (h ++ e ∷ []) (ahead_least game is) my i in
    let more = length-append h (e ∷ []) in
    omega arith

-- a made frame and a choice leave the first finding
found_made : (game : Game) (h : List Entry) (f : TurnFrame) → finding_of_log game h ≡ finding_of_log game (h ++ Made f ∷ [])
found_made game h f = ap (λ (fs : List Finding). slice_get fs 0) (sym (findings_made game h f))

found_chose : (game : Game) (h : List Entry) (t : ℕ) (m : Move) (n : Nonce) → finding_of_log game h ≡ finding_of_log game (h ++ Chose t m n ∷ [])
found_chose game h t m n = ap (λ (fs : List Finding). slice_get fs 0) (sym (findings_chose game h t m n))

pub chosen_made : (me : ℕ) (h : List Entry) (f : TurnFrame) → chosen me (h ++ Made f ∷ []) ≡ chosen me h
unfolding chosen
chosen_made me h f = flat_map_append (chosen_in me) h (Made f ∷ []) ∙ append-nil (chosen me h)

pub frames_made : (h : List Entry) (f : TurnFrame) → made (h ++ Made f ∷ []) ≡ made h ++ f ∷ []
unfolding made
frames_made h f = flat_map_append made_in h (Made f ∷ [])

pub next_honest : (game : Game) (me : ℕ) (h : List Entry) (f : TurnFrame) → IsHonest game me h → next_made game me h ≡ Some f → IsHonest game me (h ++ Made f ∷ [])
next_honest game me h f i e = honest_push game me h (Made f) i (next_made_allowed game me h f e)

-- there is a place left where a frame is next
pub next_room : (game : Game) (me : ℕ) (h : List Entry) (f : TurnFrame) (fs : List TurnFrame) → IsSession game → IsHonest game me h → next_made game me h ≡ Some f → fs ≡ made h → length fs < 2 * game.turns
next_room game me h f fs is i e m =
    let after = made_count_most game me (h ++ Made f ∷ []) (ahead_least game is) (next_honest game me h f i e) in
    let l = ap length (frames_made h f) in
    let n = length-append (made h) (f ∷ []) in
    let k = ap length m in
    omega arith

-- the tables after the next frame
pub peer_made : (game : Game) (me : ℕ) (h h' : List Entry) (os : List Opening) (fs fs' : List TurnFrame) (ts : List Track) (others : Known) (found : Option Finding) (ns ns' : List Need) (f : TurnFrame) → IsSession game →
    IsPeer game me h os fs ts others found ns → next_made game me h ≡ Some f → h' ≡ h ++ Made f ∷ [] → fs' ≡ fs ++ f ∷ [] → ns' ≡ needs game me h' →
    IsPeer game me h' os fs' ts others found ns'
peer_made game me h h' os fs fs' ts others found ns ns' f is p next e m n =
    let IsLog : List Entry → Type 0 = λ g. IsPeer game me g os fs' ts others found ns' in
    let tracks : List Opening → List Track = λ xs. tracks_from game (start_track game me) (map (λ o. o.mv) xs) in
    subst IsLog (sym e) (peer_of game me (h ++ Made f ∷ []) os fs' ts others found ns' is p.player (next_honest game me h f p.honest next)
    (p.openings_are ∙ sym (chosen_made me h f)) (m ∙ ap (λ (xs : List TurnFrame). xs ++ f ∷ []) p.frames_are ∙ sym (frames_made h f))
    (p.tracks_are ∙ ap tracks (sym (chosen_made me h f))) (others_made game me h f others p.others_are) (p.found_is ∙ found_made game h f) (n ∙ ap (needs game me) e))

-- what is next in the log that is seen is next in the log inside
pub next_inside : (v w : PeerState) (f : TurnFrame) → w ≡ v → next_made v.game v.me v.entries ≡ Some f → next_made w.game w.me w.entries ≡ Some f
next_inside v w f e n = let Is : PeerState → Type 0 = λ v. next_made v.game v.me v.entries ≡ Some f in subst Is (sym e) n

pub tracks_made : (game : Game) (me : ℕ) (h : List Entry) (f : TurnFrame) (ts : List Track) → AreOwnTracks game me h ts → AreOwnTracks game me (h ++ Made f ∷ []) ts
tracks_made game me h f ts t =
    let tracks : List Opening → List Track = λ xs. tracks_from game (start_track game me) (map (λ o. o.mv) xs) in
    t ∙ ap tracks (sym (chosen_made me h f))

pub standing : (game : Game) (me : ℕ) (h : List Entry) (os : List Opening) (fs : List TurnFrame) (ts : List Track) (others : Known) (found : Option Finding) (ns : List Need) → IsSession game →
    IsPeer game me h os fs ts others found ns → IsStanding (record { game = game; me = me; entries = h })
standing game me h os fs ts others found ns is p =
    let counts = own_counts game me h (ahead_least game is) p.honest in
    let made_are = made_count_most game me h (ahead_least game is) p.honest in
    record {
      session = is;
      player = p.player;
      honest = p.honest;
      made_few = made_are;
      chosen_few = counts.few;
      chosen_next = counts.ready;
    }

-- a peer is its session, its player and its log
pub state_is : (a : PeerState) (game : Game) (me : ℕ) (h : List Entry) → a.game ≡ game → a.me ≡ me → a.entries ≡ h → a ≡ record { game = game; me = me; entries = h }
state_is a game me h e f g =
    let at_game : Game → PeerState = λ x. record { game = x; me = a.me; entries = a.entries } in
    let at_me : ℕ → PeerState = λ x. record { game = game; me = x; entries = a.entries } in
    let at_log : List Entry → PeerState = λ x. record { game = game; me = me; entries = x } in
    ap at_game e ∙ ap at_me f ∙ ap at_log g

-- a frame that was got changes nothing of the owner's own
pub chosen_got : (me q : ℕ) (h : List Entry) (f : TurnFrame) → chosen me (h ++ Got q f ∷ []) ≡ chosen me h
unfolding chosen
chosen_got me q h f = flat_map_append (chosen_in me) h (Got q f ∷ []) ∙ append-nil (chosen me h)

pub made_got : (q : ℕ) (h : List Entry) (f : TurnFrame) → made (h ++ Got q f ∷ []) ≡ made h
unfolding made
made_got q h f = flat_map_append made_in h (Got q f ∷ []) ∙ append-nil (made h)

pub tracks_got : (game : Game) (me q : ℕ) (h : List Entry) (f : TurnFrame) (ts : List Track) → AreOwnTracks game me h ts → AreOwnTracks game me (h ++ Got q f ∷ []) ts
tracks_got game me q h f ts t =
    let tracks : List Opening → List Track = λ xs. tracks_from game (start_track game me) (map (λ o. o.mv) xs) in
    t ∙ ap tracks (sym (chosen_got me q h f))

-- the tables after a frame was got
pub peer_got : (game : Game) (me q : ℕ) (h h' : List Entry) (f : TurnFrame) (os : List Opening) (fs : List TurnFrame) (ts : List Track) (others others' : Known)
    (found found' : Option Finding) (ns ns' : List Need) → IsSession game → IsPeer game me h os fs ts others found ns → refusal game me h q f ≡ None →
    h' ≡ h ++ Got q f ∷ [] → AreOthers game me h' others' → found' ≡ finding_of_log game h' → ns' ≡ needs game me h' → IsPeer game me h' os fs ts others' found' ns'
peer_got game me q h h' f os fs ts others others' found found' ns ns' is p none e all first g =
    let IsLog : List Entry → Type 0 = λ l. IsPeer game me l os fs ts others' found' ns' in
    let Are : List Entry → Type 0 = λ l. AreOthers game me l others' in
    subst IsLog (sym e) (peer_of game me (h ++ Got q f ∷ []) os fs ts others' found' ns' is p.player (log_stays_honest game me q h f p.honest none)
    (p.openings_are ∙ sym (chosen_got me q h f)) (p.frames_are ∙ sym (made_got q h f)) (tracks_got game me q h f ts p.tracks_are) (subst Are e all)
    (first ∙ ap (finding_of_log game) e) (g ∙ ap (needs game me) e))

-- the tables after a frame was offered and refused
pub peer_kept : (game : Game) (me : ℕ) (h : List Entry) (os : List Opening) (fs : List TurnFrame) (ts : List Track) (others others' : Known) (found : Option Finding) (ns : List Need) → IsSession game →
    IsPeer game me h os fs ts others found ns → AreOthers game me h others' → IsPeer game me h os fs ts others' found ns
peer_kept game me h os fs ts others others' found ns is p all =
    peer_of game me h os fs ts others' found ns is p.player p.honest p.openings_are p.frames_are p.tracks_are all p.found_is p.needs_are

-- what the tables show of the owner itself
pub player_me : (game : Game) (me : ℕ) (h : List Entry) (os : List Opening) (fs : List TurnFrame) (ts : List Track) (others : Known) (found : Option Finding) (ns : List Need) (n r : ℕ) (t : Track) →
    IsSession game → IsPeer game me h os fs ts others found ns → n ≡ length fs → r ≡ reveals_below game n → t ≡ get_or ts r t → record { turns = r; track = t; next = n } ≡ player_view game me h me
player_me game me h os fs ts others found ns n r t is p e g f =
    let turns : r ≡ resolved_count game me h me = g ∙ ap (reveals_below game) e ∙ sym p.revealed in
    let next : n ≡ next_place game me h me = e ∙ ap (λ (xs : List TurnFrame). length xs) p.frames_are ∙ sym (own_next game me h (ahead_least game is) p.honest) in
    let counts = own_counts game me h (ahead_least game is) p.honest in
    let before = counts.before in
    let enough = counts.enough in
    let ms : List Move = map (λ o. o.mv) (chosen me h) in
    let lm = length-map (chosen me h) (λ o. o.mv) in
    let here : t ≡ track_after game me (known game me h me).moves
    = f ∙ ap (λ k. get_or ts k t) turns ∙ ap (λ (xs : List Track). get_or xs (resolved_count game me h me) t) p.tracks_are ∙
    tracks-at game (start_track game me) ms (resolved_count game me h me) t (omega arith) ∙ ap (λ (xs : List Move). track_after game me xs) (sym (own_moves game me h (ahead_least game is) p.honest)) in
    let with_turns : ℕ → PlayerView = λ k. record { turns = k; track = t; next = n } in
    let with_track : Track → PlayerView = λ k. record { turns = resolved_count game me h me; track = k; next = n } in
    let with_next : ℕ → PlayerView = λ k. record { turns = resolved_count game me h me; track = track_after game me (known game me h me).moves; next = k } in
    ap with_turns turns ∙ ap with_track here ∙ ap with_next next

-- one choice more
pub chosen_chose : (me : ℕ) (h : List Entry) (t : ℕ) (m : Move) (n : Nonce) → chosen me (h ++ Chose t m n ∷ []) ≡ chosen me h ++ record { player = me; turn = t; mv = m; nonce = n } ∷ []
unfolding chosen
chosen_chose me h t m n = flat_map_append (chosen_in me) h (Chose t m n ∷ [])

pub frames_chose : (h : List Entry) (t : ℕ) (m : Move) (n : Nonce) → made (h ++ Chose t m n ∷ []) ≡ made h
unfolding made
frames_chose h t m n = flat_map_append made_in h (Chose t m n ∷ []) ∙ append-nil (made h)

none_legal : (o : Option MoveFault) → o ≡ None → is_none o ≡ true
none_legal o e = rw e refl

is_legal_from : (game : Game) (me : ℕ) (t : Track) (m : Move) → move_fault game me t m ≡ None → is_legal game me t m ≡ true
unfolding is_legal
is_legal_from game me t m e = none_legal (move_fault game me t m) e

pub choice_honest : (game : Game) (me : ℕ) (h : List Entry) (k : ℕ) (m : Move) (n : Nonce) → IsSession game → IsHonest game me h → may_choose game me h ≡ true →
    move_fault game me (chosen_track game me h) m ≡ None → k ≡ length (chosen me h) → IsHonest game me (h ++ Chose k m n ∷ [])
choice_honest game me h k m n is i may legal e =
    let Is : ℕ → Type 0 = λ t. IsHonest game me (h ++ Chose t m n ∷ []) in
    subst Is (sym e) (honest_push game me h (Chose (length (chosen me h)) m n) i
    (may_choose_allowed game me h m n (ahead_least game is) i (is_legal_from game me (chosen_track game me h) m legal) ∙ may))

-- there is a turn left where one may be chosen
pub choice_room : (game : Game) (me : ℕ) (h : List Entry) (k : ℕ) (m : Move) (n : Nonce) → IsSession game → IsHonest game me (h ++ Chose k m n ∷ []) → length (chosen me h) < game.turns
choice_room game me h k m n is i =
    let counts = own_counts game me (h ++ Chose k m n ∷ []) (ahead_least game is) i in
    let few = counts.few in
    let l = ap (λ (os : List Opening). length os) (chosen_chose me h k m n) in
    let one : Opening = record { player = me; turn = k; mv = m; nonce = n } in
    let a = length-append (chosen me h) (one ∷ []) in
    omega arith

pub tracks_chose : (game : Game) (me : ℕ) (h : List Entry) (k : ℕ) (m : Move) (n : Nonce) (ts ts' : List Track) (t : Track) → AreOwnTracks game me h ts → t ≡ next_track game (chosen_track game me h) m →
    ts' ≡ ts ++ t ∷ [] → AreOwnTracks game me (h ++ Chose k m n ∷ []) ts'
tracks_chose game me h k m n ts ts' t are next e =
    let start : Track = start_track game me in
    let one : Opening = record { player = me; turn = k; mv = m; nonce = n } in
    let moves : List Opening → List Move = λ os. map (λ o. o.mv) os in
    e ∙ ap (λ (xs : List Track). xs ++ t ∷ []) are ∙ ap (λ (x : Track). tracks_from game start (moves (chosen me h)) ++ x ∷ []) next ∙
    sym (tracks-push game start (moves (chosen me h)) m) ∙ ap (λ (ms : List Move). tracks_from game start ms) (sym (ap moves (chosen_chose me h k m n) ∙ map-append (λ (o : Opening). o.mv) (chosen me h) (one ∷ [])))

-- the tables after a choice
pub peer_chose : (game : Game) (me : ℕ) (h h' : List Entry) (os os' : List Opening) (fs : List TurnFrame) (ts ts' : List Track) (others : Known) (found : Option Finding) (ns ns' : List Need) (k : ℕ) (m : Move) (n : Nonce) (t : Track) →
    IsSession game → IsPeer game me h os fs ts others found ns → IsHonest game me (h ++ Chose k m n ∷ []) → t ≡ next_track game (chosen_track game me h) m → h' ≡ h ++ Chose k m n ∷ [] →
    os' ≡ os ++ record { player = me; turn = k; mv = m; nonce = n } ∷ [] → ts' ≡ ts ++ t ∷ [] → ns' ≡ needs game me h' → IsPeer game me h' os' fs ts' others found ns'
peer_chose game me h h' os os' fs ts ts' others found ns ns' k m n t is p i next e o f g =
    let IsLog : List Entry → Type 0 = λ l. IsPeer game me l os' fs ts' others found ns' in
    let one : Opening = record { player = me; turn = k; mv = m; nonce = n } in
    subst IsLog (sym e) (peer_of game me (h ++ Chose k m n ∷ []) os' fs ts' others found ns' is p.player i
    (o ∙ ap (λ (xs : List Opening). xs ++ one ∷ []) p.openings_are ∙ sym (chosen_chose me h k m n)) (p.frames_are ∙ sym (frames_chose h k m n))
    (tracks_chose game me h k m n ts ts' t p.tracks_are next f) (others_chose game me k h m n others p.others_are) (p.found_is ∙ found_chose game h k m n) (g ∙ ap (needs game me) e))

-- what a choice requires of the log that is seen, of the log inside
pub may_inside : (v w : PeerState) → w ≡ v → may_choose v.game v.me v.entries ≡ true → may_choose w.game w.me w.entries ≡ true
may_inside v w e h = let Is : PeerState → Type 0 = λ p. may_choose p.game p.me p.entries ≡ true in subst Is (sym e) h

pub legal_inside : (v w : PeerState) (m : Move) → w ≡ v → move_fault v.game v.me (chosen_track v.game v.me v.entries) m ≡ None → move_fault w.game w.me (chosen_track w.game w.me w.entries) m ≡ None
legal_inside v w m e h = let Is : PeerState → Type 0 = λ p. move_fault p.game p.me (chosen_track p.game p.me p.entries) m ≡ None in subst Is (sym e) h

pub track_inside : (v w : PeerState) (m : Move) (t : Track) → w ≡ v → t ≡ next_track v.game (chosen_track v.game v.me v.entries) m → t ≡ next_track w.game (chosen_track w.game w.me w.entries) m
track_inside v w m t e h = let Is : PeerState → Type 0 = λ p. t ≡ next_track p.game (chosen_track p.game p.me p.entries) m in subst Is (sym e) h

-- an honest log is short
pub log_few : (game : Game) (me : ℕ) (h g : List Entry) → IsSession game → me < players_of game → IsHonest game me h → g ≡ h → length g < 4294967296
log_few game me h g is my i same =
    let few = logs_fit game me h (ahead_least game is) my i in
    let turns = is.turns in
    let small = room_small game turns.1 is.turns_of_all in
    let l = ap (λ (xs : List Entry). length xs) same in
    omega arith

-- the answer by the list is that by the log
pub answer_by : (game : Game) (me q : ℕ) (h g : List Entry) (f : TurnFrame) (a : GotAnswer) → g ≡ h → a ≡ got_answer game me g q f → a ≡ got_answer game me h q f
answer_by game me q h g f a same e = e ∙ ap (λ (l : List Entry). got_answer game me l q f) same

-- the tables behind a frame that is logged, and behind one that isn't
pub others_logged : (game : Game) (me q : ℕ) (h g h' : List Entry) (f : TurnFrame) (a : GotAnswer) (others : Known) → g ≡ h → a ≡ got_answer game me h q f → is_logged a ≡ true → h' ≡ h ++ Got q f ∷ [] →
    AreOthers game me (with_got game me g q f) others → AreOthers game me h' others
others_logged game me q h g h' f a others same e t l all =
    let Are : List Entry → Type 0 = λ x. AreOthers game me x others in
    subst Are (ap (λ (x : List Entry). with_got game me x q f) same ∙ got_logged game me h q f a e t ∙ sym l) all

pub others_unlogged : (game : Game) (me q : ℕ) (h g : List Entry) (f : TurnFrame) (a : GotAnswer) (others : Known) → g ≡ h → a ≡ got_answer game me h q f → is_logged a ≡ false →
    AreOthers game me (with_got game me g q f) others → AreOthers game me h others
others_unlogged game me q h g f a others same e t all =
    let Are : List Entry → Type 0 = λ x. AreOthers game me x others in
    subst Are (ap (λ (x : List Entry). with_got game me x q f) same ∙ got_unlogged game me h q f a e t) all

-- the peer behind a frame that is logged, and behind one that isn't
pub state_logged : (v w : PeerState) (q : ℕ) (f : TurnFrame) (a : GotAnswer) (h : List Entry) → w ≡ v → a ≡ got_answer w.game w.me w.entries q f → is_logged a ≡ true → h ≡ w.entries ++ Got q f ∷ [] →
    ◌≡◌ {A = PeerState} (record { game = w.game; me = w.me; entries = h }) (record { game = v.game; me = v.me; entries = with_got v.game v.me v.entries q f })
state_logged v w q f a h same e t l =
    let Is : PeerState → Type 0 = λ v. ◌≡◌ {A = PeerState} (record { game = w.game; me = w.me; entries = h }) (record { game = v.game; me = v.me; entries = with_got v.game v.me v.entries q f }) in
    let at_log : List Entry → PeerState = λ x. record { game = w.game; me = w.me; entries = x } in
    subst Is same (ap at_log (l ∙ sym (got_logged w.game w.me w.entries q f a e t)))

pub state_unlogged : (v w : PeerState) (q : ℕ) (f : TurnFrame) (a : GotAnswer) → w ≡ v → a ≡ got_answer w.game w.me w.entries q f → is_logged a ≡ false →
    ◌≡◌ {A = PeerState} (record { game = w.game; me = w.me; entries = w.entries }) (record { game = v.game; me = v.me; entries = with_got v.game v.me v.entries q f })
state_unlogged v w q f a same e t =
    let Is : PeerState → Type 0 = λ v. ◌≡◌ {A = PeerState} (record { game = w.game; me = w.me; entries = w.entries }) (record { game = v.game; me = v.me; entries = with_got v.game v.me v.entries q f }) in
    let at_log : List Entry → PeerState = λ x. record { game = w.game; me = w.me; entries = x } in
    subst Is same (ap at_log (sym (got_unlogged w.game w.me w.entries q f a e t)))

-- a log with a first finding isn't clean, and one without is
pub some_dirty : (game : Game) (h : List Entry) (found : Option Finding) → found ≡ finding_of_log game h → is_some found ≡ true → is_clean game h ≡ false
some_dirty game h found e some = clean_is_none game h found e ∙ by_found found some
  where
    by_found : (o : Option Finding) → is_some o ≡ true → is_none o ≡ false
    by_found None s = absurd (false≢true s)
    by_found (Some x) s = refl

pub none_clean : (game : Game) (h : List Entry) (found : Option Finding) → found ≡ finding_of_log game h → is_some found ≡ false → is_clean game h ≡ true
none_clean game h found e none = clean_is_none game h found e ∙ by_found found none
  where
    by_found : (o : Option Finding) → is_some o ≡ false → is_none o ≡ true
    by_found None s = refl
    by_found (Some x) s = absurd (false≢true (sym s))
