-- FirstEntries: the first entries of a log, and a peer's tables of them.
use Rattle.std.proofs.Common.{◌≡◌, ℕ, suc, ◌+◌, ◌<◌, ◌≤◌, Bool, true, false, List, [], ◌∷◌, ◌++◌, refl, sym, ◌∙◌, ap, subst, arith, length, take, drop, get_or, append-nil, length-append}
use Rattle.std.specs.Prelude.{None, Option, map, if◌then◌else◌, slice_get}
use Rattle.std.proofs.lemmas.Bool.{and_parts}
use Rattle.std.proofs.lemmas.List.{take-append-drop, take_more, take_all}
use Rattle.definitions.specs.declared.world.Move.{Move}
use Rattle.definitions.specs.declared.world.Track.{Track}
use Rattle.definitions.specs.declared.openings.Nonce.{Nonce}
use Rattle.definitions.specs.declared.openings.Opening.{Opening}
use Rattle.definitions.specs.declared.answers.Need.{Need}
use Rattle.definitions.specs.declared.findings.Finding.{Finding}
use Rattle.definitions.specs.declared.frames.TurnFrame.{TurnFrame}
use Rattle.definitions.specs.declared.logs.Entry.{Entry}
use Rattle.definitions.specs.declared.logs.Entry.TheVariants.{Chose, Made, Got}
use Rattle.definitions.specs.Lists.{is_empty}
use Rattle.definitions.specs.World.{Game, players_of}
use Rattle.definitions.specs.Moves.{next_track, start_track}
use Rattle.definitions.specs.Logs.{made, made_in, chosen, chosen_in}
use Rattle.definitions.specs.Findings.{is_clean}
use Rattle.definitions.specs.Answers.{is_of_another}
use Rattle.definitions.specs.Honest.{IsHonest, allowed, allows, made_count}
use Rattle.definitions.specs.Needs.{needs}
use Rattle.definitions.specs.Steps.{has_no_made}
use Rattle.definition_laws.specs.First.{finding_of_log}
use Rattle.definition_laws.proofs.ForPeers.{honest_last, honest_empty}
use Rattle.definition_laws.proofs.Permits.{IsHonest_prefix}
use Rattle.definition_laws.proofs.Listing.{flat_map_append, take_front, empty_nil}
use Rattle.definition_laws.proofs.Room.{clean_none}
use Rattle.grid_world.specs.Sessions.{IsSession}
use Rattle.grid_world.proofs.Reveals.{ahead_least}
use Rattle.playout.specs.Playing.{Played, fresh}
use Rattle.peer_core.specs.Inside.{IsPeer}
use Rattle.peer_core.specs.Settling.{IsCounting}
use Rattle.peer_core.specs.OwnTracks.{AreOwnTracks, tracks_from}
use Rattle.peer_core.specs.Others.{Known, AreOthers}
use Rattle.peer_core.specs.Views.{PeerState, with_got}
use Rattle.peer_core.proofs.Replaying.{got_allowed}
use Rattle.peer_core.proofs.Tables.{others_made, others_chose}
use Rattle.peer_core.proofs.Counted.{counted_fresh, counting_on}
use Rattle.peer_core.proofs.Peers.{peer_of}

-- the first entries of an honest log are one
pub first_honest : (game : Game) (me n : ℕ) (h : List Entry) → IsHonest game me h → IsHonest game me (take n h)
first_honest game me n h i =
    let Is : List Entry → Type 0 = λ l. IsHonest game me l in
    IsHonest_prefix game me (take n h) (drop n h) (subst Is (sym (take-append-drop n h)) i)

-- each entry of it was allowed behind those before it
pub entry_allowed : (game : Game) (me n : ℕ) (h : List Entry) (d : Entry) → IsHonest game me h → n < length h → allowed game me (take n h) (get_or h n d) ≡ true
entry_allowed game me n h d i lt =
    let Is : List Entry → Type 0 = λ l. IsHonest game me l in
    let both = honest_last game me (take n h) (get_or h n d) (subst Is (take_more h n d lt) (first_honest game me (n + 1) h i)) in both.1

-- a frame that may come is another player's, and comes to a clean log
pub got_parts : (game : Game) (me q : ℕ) (h : List Entry) (f : TurnFrame) → allowed game me h (Got q f) ≡ true → (is_clean game h ≡ true) × (is_of_another game me q f ≡ true)
unfolding allows
got_parts game me q h f e =
    let both = and_parts _ _ e in
    let more = and_parts _ _ both.1 in (both.0, more.0)

-- the tables with one entry more, which got a frame or didn't
pub others_got : (game : Game) (me q : ℕ) (h g l : List Entry) (f : TurnFrame) (o : Known) → g ≡ h → allowed game me h (Got q f) ≡ true → l ≡ h ++ Got q f ∷ [] → AreOthers game me (with_got game me g q f) o → AreOthers game me l o
others_got game me q h g l f o same may e a =
    let Are : List Entry → Type 0 = λ x. AreOthers game me x o in
    let With : List Entry → List Entry = λ x. with_got game me x q f in
    let if_taken : Bool → List Entry = λ b. if b then h ++ Got q f ∷ [] else h in
    subst Are (ap With same ∙ ap if_taken (got_allowed game me q h f ∙ may) ∙ sym e) a

-- ---- what the owner did in the first entries

split_chosen : (me n : ℕ) (h : List Entry) → chosen me h ≡ chosen me (take n h) ++ chosen me (drop n h)
unfolding chosen
split_chosen me n h = ap (λ (l : List Entry). chosen me l) (sym (take-append-drop n h)) ∙ flat_map_append (chosen_in me) (take n h) (drop n h)

split_made : (n : ℕ) (h : List Entry) → made h ≡ made (take n h) ++ made (drop n h)
unfolding made
split_made n h = ap (λ (l : List Entry). made l) (sym (take-append-drop n h)) ∙ flat_map_append made_in (take n h) (drop n h)

pub first_chosen : (me n k : ℕ) (h : List Entry) (os : List Opening) → os ≡ chosen me h → k ≡ length (chosen me (take n h)) → take k os ≡ chosen me (take n h)
first_chosen me n k h os o e =
    ap (λ (xs : List Opening). take k xs) (o ∙ split_chosen me n h) ∙ ap (λ m. take m (chosen me (take n h) ++ chosen me (drop n h))) e ∙ take_front (chosen me (take n h)) (chosen me (drop n h))

pub first_made : (n : ℕ) (h : List Entry) → has_no_made (drop n h) ≡ true → made h ≡ made (take n h)
first_made n h none = split_made n h ∙ ap (λ (fs : List TurnFrame). made (take n h) ++ fs) (empty_nil (made (drop n h)) none) ∙ append-nil (made (take n h))

first_tracks : (game : Game) (track : Track) (ms ns : List Move) → take (length ms + 1) (tracks_from game track (ms ++ ns)) ≡ tracks_from game track ms
first_tracks game track [] [] = refl
first_tracks game track [] (n ∷ ns) = refl
first_tracks game track (m ∷ ms) ns = rw (first_tracks_step game track m ms ns) (ap (λ (ts : List Track). track ∷ ts) (first_tracks game (next_track game track m) ms ns))
  where
    first_tracks_step : (game : Game) (track : Track) (m : Move) (ms ns : List Move) → take (suc (length ms) + 1) (tracks_from game track (m ∷ (ms ++ ns))) ≡ track ∷ take (length ms + 1) (tracks_from game (next_track game track m) (ms ++ ns))
    first_tracks_step game track m ms ns = let e : suc (length ms) + 1 ≡ suc (length ms + 1) = omega arith in ap (λ k. take k (track ∷ tracks_from game (next_track game track m) (ms ++ ns))) e

moves_of_openings : (os ps : List Opening) → map (λ (o : Opening). o.mv) (os ++ ps) ≡ map (λ (o : Opening). o.mv) os ++ map (λ (o : Opening). o.mv) ps
moves_of_openings [] ps = refl
moves_of_openings (o ∷ os) ps = ap (λ (ms : List Move). o.mv ∷ ms) (moves_of_openings os ps)

count_moves : (os : List Opening) → length (map (λ (o : Opening). o.mv) os) ≡ length os
count_moves [] = refl
count_moves (o ∷ os) = ap suc (count_moves os)

pub first_own_tracks : (game : Game) (me n k : ℕ) (h : List Entry) (ts : List Track) → AreOwnTracks game me h ts → k ≡ length (chosen me (take n h)) → AreOwnTracks game me (take n h) (take (k + 1) ts)
first_own_tracks game me n k h ts t e =
    let start : Track = start_track game me in
    let moves : List Opening → List Move = λ os. map (λ (o : Opening). o.mv) os in
    let front = moves (chosen me (take n h)) in
    let back = moves (chosen me (drop n h)) in
    let all : moves (chosen me h) ≡ front ++ back = ap moves (split_chosen me n h) ∙ moves_of_openings (chosen me (take n h)) (chosen me (drop n h)) in
    let count : k + 1 ≡ length front + 1 = ap (λ m. m + 1) (e ∙ sym (count_moves (chosen me (take n h)))) in
    ap (λ (xs : List Track). take (k + 1) xs) (t ∙ ap (λ (ms : List Move). tracks_from game start ms) all) ∙ ap (λ m. take m (tracks_from game start (front ++ back))) count ∙ first_tracks game start front back

-- a log of which an entry is cut off had no finding then
pub first_found : (game : Game) (me n : ℕ) (h : List Entry) (d : Entry) → IsHonest game me h → n < length h → None ≡ finding_of_log game (take n h)
first_found game me n h d i lt =
    let both = and_parts _ _ (entry_allowed game me n h d i lt) in
    ap (λ (fs : List Finding). slice_get fs 0) (sym (clean_none game (take n h) both.0))

-- ---- how many choices the first entries have

pub chosen_more : (me n : ℕ) (h : List Entry) (d e : Entry) (t : ℕ) (m : Move) (k : Nonce) → n < length h → e ≡ get_or h n d → e ≡ Chose t m k → length (chosen me (take (n + 1) h)) ≡ length (chosen me (take n h)) + 1
unfolding chosen
chosen_more me n h d e t m k lt at is =
    let one : Opening = record { player = me; turn = t; mv = m; nonce = k } in
    ap (λ (l : List Entry). length (chosen me l)) (take_more h n d lt ∙ ap (λ (x : Entry). take n h ++ x ∷ []) (sym at ∙ is)) ∙
    ap (λ (os : List Opening). length os) (flat_map_append (chosen_in me) (take n h) (Chose t m k ∷ [])) ∙ length-append (chosen me (take n h)) (one ∷ [])

pub chosen_same : (me n : ℕ) (h : List Entry) (d e : Entry) → n < length h → e ≡ get_or h n d → ((t : ℕ) (m : Move) (k : Nonce) → e ≡ Chose t m k → ⊥) → length (chosen me (take (n + 1) h)) ≡ length (chosen me (take n h))
unfolding chosen
chosen_same me n h d e lt at never =
    ap (λ (l : List Entry). length (chosen me l)) (take_more h n d lt ∙ ap (λ (x : Entry). take n h ++ x ∷ []) (sym at)) ∙
    ap (λ (os : List Opening). length os) (flat_map_append (chosen_in me) (take n h) (e ∷ [])) ∙ length-append (chosen me (take n h)) (chosen_in me e ++ []) ∙ none e never
  where
    none : (e : Entry) → ((t : ℕ) (m : Move) (k : Nonce) → e ≡ Chose t m k → ⊥) → length (chosen me (take n h)) + length (chosen_in me e ++ []) ≡ length (chosen me (take n h))
    none (Chose t m k) never = absurd (never t m k refl)
    none (Made f) never = omega arith
    none (Got q f) never = omega arith

-- none is among them exactly where they count none
pub none_counted : (h : List Entry) (n : ℕ) → n ≡ length (made h) → n ≡ 0 → has_no_made h ≡ true
none_counted h n e z = by_frames (made h) (sym e ∙ z)
  where
    by_frames : (fs : List TurnFrame) → length fs ≡ 0 → is_empty fs ≡ true
    by_frames [] k = refl
    by_frames (f ∷ fs) k = absurd (omega arith)

pub some_counted : (h : List Entry) (n : ℕ) → n ≡ length (made h) → 0 < n → has_no_made h ≡ false
some_counted h n e z = by_frames (made h) (omega arith)
  where
    by_frames : (fs : List TurnFrame) → 0 < length fs → is_empty fs ≡ false
    by_frames [] k = absurd (omega arith)
    by_frames (f ∷ fs) k = refl

-- ---- a peer of the first entries

-- an entry that got no frame changes nothing of the tables
pub others_other : (game : Game) (me n : ℕ) (h : List Entry) (d : Entry) (o : Known) → n < length h → ((q : ℕ) (f : TurnFrame) → get_or h n d ≡ Got q f → ⊥) → AreOthers game me (take n h) o → AreOthers game me (take (n + 1) h) o
others_other game me n h d o lt never a =
    let Are : List Entry → Type 0 = λ x. AreOthers game me x o in
    subst Are (sym (take_more h n d lt)) (by_entry (get_or h n d) never)
  where
    by_entry : (e : Entry) → ((q : ℕ) (f : TurnFrame) → e ≡ Got q f → ⊥) → AreOthers game me (take n h ++ e ∷ []) o
    by_entry (Chose t m k) never = others_chose game me t (take n h) m k o a
    by_entry (Made f) never = others_made game me (take n h) f o a
    by_entry (Got q f) never = absurd (never q f refl)

pub got_entry : (game : Game) (me n q : ℕ) (h : List Entry) (d : Entry) (f : TurnFrame) → IsHonest game me h → n < length h → get_or h n d ≡ Got q f → allowed game me (take n h) (Got q f) ≡ true
got_entry game me n q h d f i lt e = ap (λ (x : Entry). allowed game me (take n h) x) (sym e) ∙ entry_allowed game me n h d i lt

-- the tables with one frame more that was got
pub others_again : (game : Game) (me n q : ℕ) (h g : List Entry) (d : Entry) (f : TurnFrame) (o : Known) → IsHonest game me h → n < length h → get_or h n d ≡ Got q f → g ≡ take n h → AreOthers game me (with_got game me g q f) o → AreOthers game me (take (n + 1) h) o
others_again game me n q h g d f o i lt e same a =
    others_got game me q (take n h) g (take (n + 1) h) f o same (got_entry game me n q h d f i lt e) (take_more h n d lt ∙ ap (λ (x : Entry). take n h ++ x ∷ []) e) a

-- the tables of the first entries
pub peer_first : (game : Game) (me keep k : ℕ) (h h' : List Entry) (os os' : List Opening) (fs : List TurnFrame) (ts ts' : List Track) (others others' : Known) (found : Option Finding) (ns ns' : List Need) (d : Entry) →
    IsSession game → IsPeer game me h os fs ts others found ns → keep < length h → has_no_made (drop keep h) ≡ true → h' ≡ take keep h → k ≡ length (chosen me (take keep h)) → os' ≡ take k os → ts' ≡ take (k + 1) ts →
    AreOthers game me h' others' → ns' ≡ needs game me h' → IsPeer game me h' os' fs ts' others' None ns'
peer_first game me keep k h h' os os' fs ts ts' others others' found ns ns' d is p lt none log count o t a n =
    let IsLog : List Entry → Type 0 = λ l. IsPeer game me l os' fs ts' others' None ns' in
    let AreAt : List Entry → Type 0 = λ l. AreOthers game me l others' in
    let Tracks : List Track → Type 0 = λ xs. AreOwnTracks game me (take keep h) xs in
    subst IsLog (sym log) (peer_of game me (take keep h) os' fs ts' others' None ns' is p.player (first_honest game me keep h p.honest)
    (o ∙ first_chosen me keep k h os p.openings_are count) (p.frames_are ∙ first_made keep h none) (subst Tracks (sym t) (first_own_tracks game me keep k h ts p.tracks_are count))
    (subst AreAt log a) (first_found game me keep h d p.honest lt) (n ∙ ap (needs game me) log))

-- no turn of it is counted yet
pub counting_none : (game : Game) (me : ℕ) (h : List Entry) (p : Played) → IsSession game → me < players_of game → p ≡ fresh game → IsCounting game me h p
counting_none game me h p is my e =
    counting_on game me [] h p (ahead_least game is) (honest_empty game me) my (counted_fresh game game me [] p refl refl my e)

-- the own frames of the first entries are all that were made
pub first_count : (keep n : ℕ) (h l : List Entry) (fs : List TurnFrame) → n ≡ length fs → fs ≡ made h → has_no_made (drop keep h) ≡ true → l ≡ take keep h → n ≡ made_count l
first_count keep n h l fs e f none log = e ∙ ap (λ (xs : List TurnFrame). length xs) (f ∙ first_made keep h none) ∙ ap (λ (x : List Entry). made_count x) (sym log)

-- what is required of the log that is seen, of the log inside
pub unmade_inside : (v w : PeerState) (keep : ℕ) → w ≡ v → has_no_made (drop keep v.entries) ≡ true → has_no_made (drop keep w.entries) ≡ true
unmade_inside v w keep e h = let Is : PeerState → Type 0 = λ p. has_no_made (drop keep p.entries) ≡ true in subst Is (sym e) h

pub within_inside : (v w : PeerState) (keep n : ℕ) → w ≡ v → keep ≤ length v.entries → n ≡ length w.entries → (keep ≡ n → ⊥) → keep < length w.entries
within_inside v w keep n e le k differs =
    let Is : PeerState → Type 0 = λ p. keep ≤ length p.entries in
    let inside : keep ≤ length w.entries = subst Is (sym e) le in omega arith

-- where the log has no more entries than are kept, it stays
pub all_kept : (v w : PeerState) (keep n : ℕ) → w ≡ v → keep ≤ length v.entries → n ≡ length w.entries → keep ≡ n → ◌≡◌ {A = PeerState} v (record { game = v.game; me = v.me; entries = take keep v.entries })
all_kept v w keep n e le k same =
    let count : n ≡ length v.entries = k ∙ ap (λ (p : PeerState). length p.entries) e in
    let at_log : List Entry → PeerState = λ l. record { game = v.game; me = v.me; entries = l } in
    ap at_log (sym (take_all keep v.entries (omega arith)))

pub first_state : (v w : PeerState) (keep : ℕ) (l : List Entry) → w ≡ v → l ≡ take keep w.entries → ◌≡◌ {A = PeerState} (record { game = w.game; me = w.me; entries = l }) (record { game = v.game; me = v.me; entries = take keep v.entries })
first_state v w keep l e log =
    let Is : PeerState → Type 0 = λ p. ◌≡◌ {A = PeerState} (record { game = w.game; me = w.me; entries = l }) (record { game = p.game; me = p.me; entries = take keep p.entries }) in
    let at_log : List Entry → PeerState = λ x. record { game = w.game; me = w.me; entries = x } in
    subst Is e (ap at_log log)
