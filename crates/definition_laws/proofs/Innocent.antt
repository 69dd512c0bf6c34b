-- A player whose frames all come from its own honest log is never named.
use Rattle.std.proofs.Common.{Bool, List, None, Some, [], ap, append_assoc, arith, false, length, length-append, refl, subst, suc, sym, true, zero, zero-add, ℕ, ◌*◌, ◌++◌, ◌+◌, ◌∙◌, ◌∷◌, ◌≡◌, ◌≤◌}
use Rattle.std.specs.Prelude.{Option, find, flat_map, if◌then◌else◌, map, min, nat_le, nat_lt, option_map, slice_get, take, ◌&&◌, ◌==◌}
use Rattle.std.specs.Option.{option_or}
use Rattle.std.proofs.lemmas.Bool.{and_parts, and_right, cond-false, eqb-true, false≢true, leb-true}
use Rattle.plain_lemmas.proofs.Each.{each_append, each_kept}
use Rattle.plain_lemmas.proofs.Tests.{of_chosen}
use Rattle.definitions.specs.declared.findings.Kind.TheVariants.{BadOpening, Collision, Illegal, TwoCommits}
use Rattle.definitions.specs.Findings.{Sighting, are_bad_opening, are_collision, are_illegal, are_two_commits, finding_at, finding_of, first_pair, got_known, is_illegal_at, is_reveal, same_digest, show_kind, sightings, sightings_from}
use Rattle.definitions.specs.declared.openings.Opening.{Opening}
use Rattle.definitions.specs.Honest.{IsHonest, allowed, allows, allows_frame, chosen_for, honest_from}
use Rattle.definitions.specs.declared.frames.TurnFrame.TheVariants.{Commit, Reveal}
use Rattle.definitions.specs.Moves.{are_legal_from, is_legal, start_track, track_after}
use Rattle.definitions.specs.Logs.{chosen, digest_eq, frame_eq, got_in, got_of, made, turn_of}
use Rattle.definitions.specs.declared.logs.Entry.TheVariants.{Chose, Got, Made}
use Rattle.definitions.specs.declared.findings.Kind.{Kind}
use Rattle.definitions.specs.declared.frames.TurnFrame.{TurnFrame}
use Rattle.definitions.specs.Held.{Known, digest_of, first_commit, first_opening, known_to, next_known, opened, with_commit, with_move}
use Rattle.definitions.specs.Lists.{EachIs, item_or}
use Rattle.definitions.specs.declared.logs.Entry.{Entry}
use Rattle.definitions.specs.declared.openings.Digest.{Digest}
use Rattle.definitions.specs.Openings.{commitment}
use Rattle.definitions.specs.declared.world.Move.{Move}
use Rattle.definitions.specs.World.{Game}
use Rattle.definition_laws.proofs.Listing.{append_nil, each_at, map_take_more, slice_get_front}
use Rattle.definition_laws.proofs.OwnStream.{IsOwn, own_empty}
use Rattle.definition_laws.proofs.Alike.{commits_to_some, digest_eq_same, frame_eq_same, reveal_from, reveal_move, reveals_of_some}
use Rattle.definition_laws.proofs.Headline.{first_opening_opens}
use Rattle.definition_laws.proofs.Chosen.{chosen_at, chosen_push, find_chosen, legal_at, made_push}
use Rattle.definition_laws.proofs.OwnLog.{own_step}

-- the frame is the commitment to what was chosen for its turn, or the reveal of it
abbrev pub Conforms : Game → List Opening → TurnFrame → Type 0
Conforms game os (Commit p t d) = (o : Opening) × (slice_get os t ≡ Some o) × (d ≡ commitment game.id o)
Conforms game os (Reveal p t m n) = (o : Opening) × (slice_get os t ≡ Some o) × (Reveal p t m n ≡ Reveal o.player o.turn o.mv o.nonce)

Conforms_more : (game : Game) (os ps : List Opening) (f : TurnFrame) → Conforms game os f → Conforms game (os ++ ps) f
Conforms_more game os ps (Commit p t d) c = (c.0, slice_get_front os ps t c.0 c.1, c.2)
Conforms_more game os ps (Reveal p t m n) c = (c.0, slice_get_front os ps t c.0 c.1, c.2)

-- each frame that the owner made conforms to what it chose
abbrev AllConform : Game → ℕ → List Entry → Type 0
AllConform game me g = EachIs (Conforms game (chosen me g)) (made g)

conform_at : (game : Game) (fs fs' : List TurnFrame) (os os' : List Opening) → fs ≡ fs' → os ≡ os' → EachIs (Conforms game os) fs → EachIs (Conforms game os') fs'
conform_at game fs fs' os os' a b w = subst (λ (gs : List TurnFrame). EachIs (Conforms game os') gs) a (subst (λ (ps : List Opening). EachIs (Conforms game ps) fs) b w)

conform_step : (game : Game) (me : ℕ) (g : List Entry) (e : Entry) → IsOwn game me (made g) (chosen me g) → AllConform game me g → allowed game me g e ≡ true → AllConform game me (g ++ e ∷ [])
unfolding allows allows_frame
conform_step game me g (Got q f) w all h =
    conform_at game _ _ _ _ (sym (append_nil (made g)) ∙ sym (made_push g (Got q f))) (sym (append_nil (chosen me g)) ∙ sym (chosen_push me g (Got q f))) all
conform_step game me g (Chose t m n) w all h =
    conform_at game _ _ _ _ (sym (append_nil (made g)) ∙ sym (made_push g (Chose t m n))) (sym (chosen_push me g (Chose t m n)))
    (each_kept _ _ (made g) (λ f c. Conforms_more game (chosen me g) (record { player = me; turn = t; mv = m; nonce = n } ∷ []) f c) all)
conform_step game me g (Made (Commit p t k)) w all h =
    let a = and_parts _ _ (and_parts _ _ h).1 in
    let b = and_parts _ _ a.0 in
    let o = commits_to_some game (chosen_for me g t) k b.1 in
    let there = sym (find_chosen me 0 t (chosen me g) w.chosen_are) ∙ ap (λ n. find (λ o. o.turn == n) (chosen me g)) (zero-add t) ∙ o.1 in
    conform_at game _ _ _ _ (sym (made_push g (Made (Commit p t k)))) (sym (append_nil (chosen me g)) ∙ sym (chosen_push me g (Made (Commit p t k))))
    (each_append _ (made g) (Commit p t k ∷ []) all ((o.0, there, o.2), tt))
conform_step game me g (Made (Reveal p t m n)) w all h =
    let a = and_parts _ _ (and_parts _ _ h).1 in
    let b = and_parts _ _ a.0 in
    let c = and_parts _ _ b.0 in
    let o = reveals_of_some (chosen_for me g t) m n b.1 in
    let there = sym (find_chosen me 0 t (chosen me g) w.chosen_are) ∙ ap (λ n. find (λ o. o.turn == n) (chosen me g)) (zero-add t) ∙ o.1 in
    let who = chosen_at me 0 t (chosen me g) o.0 w.chosen_are there in
    let turn : o.0.turn ≡ t = who.1 ∙ zero-add t in
    let same = reveal_from p o.0.player t o.0.turn m o.0.mv n o.0.nonce (eqb-true _ _ c.0 ∙ sym who.0) (sym turn) o.2 o.3 in
    conform_at game _ _ _ _ (sym (made_push g (Made (Reveal p t m n)))) (sym (append_nil (chosen me g)) ∙ sym (chosen_push me g (Made (Reveal p t m n))))
    (each_append _ (made g) (Reveal p t m n ∷ []) all ((o.0, there, same), tt))

conform_from : (game : Game) (me : ℕ) (g es : List Entry) → 1 ≤ game.ahead → IsOwn game me (made g) (chosen me g) → AllConform game me g → honest_from game me g es ≡ true → AllConform game me (g ++ es)
unfolding honest_from
conform_from game me g [] d w all h = subst (λ (k : List Entry). AllConform game me k) (sym (append_nil g)) all
conform_from game me g (e ∷ es) d w all h =
    let both = and_parts _ _ h in
    subst (λ (k : List Entry). AllConform game me k) (append_assoc g (e ∷ []) es)
    (conform_from game me (g ++ e ∷ []) es d (own_step game me g e d w both.0) (conform_step game me g e w all both.0) both.1)

-- in an honest log all made frames conform to what was chosen
pub conform_honest : (game : Game) (me : ℕ) (h : List Entry) → 1 ≤ game.ahead → IsHonest game me h → AllConform game me h
unfolding made chosen
conform_honest game me h d i = conform_from game me [] h d (own_empty game me) tt i

-- two frames of one turn that conform have one digest, and two such reveals are one
conform_digest : (game : Game) (os : List Opening) (f : TurnFrame) → Conforms game os f → (o : Opening) × (slice_get os (turn_of f) ≡ Some o) × (digest_of game f ≡ commitment game.id o)
unfolding digest_of
conform_digest game os (Commit p t d) c = c
conform_digest game os (Reveal p t m n) c = (c.0, c.1, ap (digest_of game) c.2)

same_digests : (game : Game) (os : List Opening) (f g : TurnFrame) → turn_of f ≡ turn_of g → Conforms game os f → Conforms game os g → same_digest game f g ≡ true
same_digests game os f g turn a b =
    let x = conform_digest game os f a in
    let y = conform_digest game os g b in
    let same : Some x.0 ≡ Some y.0 = sym x.1 ∙ ap (slice_get os) turn ∙ y.1 in
    let one : x.0 ≡ y.0 = cc in
    ap (digest_eq (digest_of game f)) (y.2 ∙ ap (commitment game.id) (sym one) ∙ sym x.2) ∙ digest_eq_same (digest_of game f)

no_unlike : (game : Game) (os : List Opening) (f g : TurnFrame) → turn_of f ≡ turn_of g → Conforms game os f → Conforms game os g →
    (are_two_commits game f g ≡ false) × (are_bad_opening game f g ≡ false)
no_unlike game os f g turn a b = let s = same_digests game os f g turn a b in (grind (arith, s), grind (arith, s))

same_reveals : (game : Game) (os : List Opening) (f g : TurnFrame) → turn_of f ≡ turn_of g → Conforms game os f → Conforms game os g → (is_reveal f && is_reveal g) ≡ true → f ≡ g
same_reveals game os (Commit p t d) g turn a b h = absurd (false≢true h)
same_reveals game os (Reveal p t m n) (Commit q u d) turn a b h = absurd (false≢true h)
same_reveals game os (Reveal p t m n) (Reveal q u k o) turn a b h =
    let same : Some a.0 ≡ Some b.0 = sym a.1 ∙ ap (slice_get os) turn ∙ b.1 in
    let one : a.0 ≡ b.0 = cc in
    a.2 ∙ ap (λ (x : Opening). Reveal x.player x.turn x.mv x.nonce) one ∙ sym b.2

pub no_collision : (game : Game) (os : List Opening) (f g : TurnFrame) → turn_of f ≡ turn_of g → Conforms game os f → Conforms game os g → are_collision game f g ≡ false
no_collision game os f g turn a b = go (is_reveal f && is_reveal g) refl
  where
    go : (x : Bool) → (is_reveal f && is_reveal g) ≡ x → are_collision game f g ≡ false
    go false e = let k = e in grind (arith, k)
    go true e = let same = ap (frame_eq f) (sym (same_reveals game os f g turn a b e)) ∙ frame_eq_same f in grind (arith, same)

-- the moves that are known are the first that were chosen
abbrev pub AreChosenMoves : List Opening → Known → Type 0
AreChosenMoves os k = k.moves ≡ map (λ o. o.mv) (take (length k.moves) os)

moves_chosen : (game : Game) (q : ℕ) (os : List Opening) (fs : List TurnFrame) (k : Known) → EachIs (Conforms game os) fs → AreChosenMoves os k →
    AreChosenMoves os (with_move k (opened game q k.moves fs (length k.moves) (slice_get k.digests (length k.moves))))
moves_chosen game q os fs k all h = at (slice_get k.digests (length k.moves))
  where
    at : (o : Option Digest) → AreChosenMoves os (with_move k (opened game q k.moves fs (length k.moves) o))
    at None = h
    at (Some d) = go (first_opening game q k.moves d fs (length k.moves)) refl
      where
        go : (o : Option Move) → first_opening game q k.moves d fs (length k.moves) ≡ o → AreChosenMoves os (with_move k o)
        go None e = h
        go (Some m) e =
            let o = first_opening_opens game q k.moves d fs (length k.moves) m e in
            let P : List TurnFrame → Type 0 = λ gs. EachIs (Conforms game os) gs in
            let c = each_at (Conforms game os) o.front o.rest (Reveal o.player (length k.moves) m o.nonce) (subst P o.stands all) in
            let mv : m ≡ c.0.mv = reveal_move _ _ _ _ _ _ _ _ c.2 in
            let l = length-append k.moves (m ∷ []) in
            ap (λ (x : Move). k.moves ++ x ∷ []) mv ∙ ap (λ (xs : List Move). xs ++ c.0.mv ∷ []) h
            ∙ sym (map_take_more (λ o. o.mv) (length k.moves) os c.0 c.1) ∙ ap (λ n. map (λ o. o.mv) (take n os)) (sym l)

pub known_chosen : (game : Game) (q : ℕ) (os : List Opening) (fs : List TurnFrame) (n : ℕ) → EachIs (Conforms game os) fs → AreChosenMoves os (known_to game q fs n)
unfolding known_to next_known
known_chosen game q os fs zero all = refl
known_chosen game q os fs (suc n) all = go (known_to game q fs n) (known_chosen game q os fs n all)
  where
    commits : (k : Known) (o : Option Digest) → AreChosenMoves os k → AreChosenMoves os (with_commit k o)
    commits k None h = h
    commits k (Some d) h = h

    go : (k : Known) → AreChosenMoves os k → AreChosenMoves os (next_known game q fs k)
    go k h =
        of_chosen (AreChosenMoves os) (nat_lt (length k.digests) (min (length k.moves + game.ahead) game.turns)) _ _ (commits k (first_commit fs (length k.digests)) h)
        (of_chosen (AreChosenMoves os) (nat_lt (length k.moves) game.turns) _ _ (moves_chosen game q os fs k all h) h)

take_map_take : (t n : ℕ) (os : List Opening) → t ≤ n → take t (map (λ o. o.mv) (take n os)) ≡ map (λ o. o.mv) (take t os)
take_map_take zero n os h = refl
take_map_take (suc t) zero os h = absurd (omega arith)
take_map_take (suc t) (suc n) [] h = refl
take_map_take (suc t) (suc n) (o ∷ os) h = ap (λ (xs : List Move). o.mv ∷ xs) (take_map_take t n os (omega arith))

pub no_illegal : (game : Game) (q t : ℕ) (os : List Opening) (k : Known) (f : TurnFrame) → are_legal_from game q (start_track game q) (map (λ o. o.mv) os) ≡ true →
    AreChosenMoves os k → turn_of f ≡ t → Conforms game os f → is_illegal_at game q t k f ≡ false
no_illegal game q t os k (Commit p u d) legal h turn c = grind arith
no_illegal game q t os k (Reveal p u m n) legal h turn c = go (nat_le t (length k.moves)) refl
  where
    go : (b : Bool) → nat_le t (length k.moves) ≡ b → is_illegal_at game q t k (Reveal p u m n) ≡ false
    go false e = grind (arith, e)
    go true e =
        let le = leb-true t (length k.moves) e in
        let same : take t k.moves ≡ map (λ o. o.mv) (take t os) = ap (take t) h ∙ take_map_take t (length k.moves) os le in
        let mv : m ≡ c.0.mv = reveal_move _ _ _ _ _ _ _ _ c.2 in
        let here : slice_get os t ≡ Some c.0 = ap (slice_get os) (sym turn) ∙ c.1 in
        let good : is_legal game q (track_after game q (take t k.moves)) m ≡ true =
        ap (λ (ms : List Move). is_legal game q (track_after game q ms) m) same ∙ ap (is_legal game q (track_after game q (map (λ o. o.mv) (take t os)))) mv
        ∙ legal_at game q os (start_track game q) t c.0 legal here in
        grind (arith, good)

-- a sighting that conforms, of this turn
abbrev IsFine : Game → List Opening → ℕ → Sighting → Type 0
IsFine game os t s = (turn_of s.frame ≡ t) × Conforms game os s.frame

-- all that the logs got of the player conforms to what it chose
abbrev pub AllGotConform : Game → ℕ → List Opening → List (List Entry) → Type 0
AllGotConform game q os logs = EachIs (λ g. EachIs (Conforms game os) (got_of q g)) logs

fine_from : (game : Game) (q t log i : ℕ) (os : List Opening) (h : List Entry) → EachIs (Conforms game os) (flat_map (got_in q) h) → EachIs (IsFine game os t) (sightings_from q t log i h)
unfolding sightings_from
fine_from game q t log i os [] all = tt
fine_from game q t log i os (Chose u m n ∷ h) all = fine_from game q t log (i + 1) os h all
fine_from game q t log i os (Made g ∷ h) all = fine_from game q t log (i + 1) os h all
fine_from game q t log i os (Got p g ∷ h) all = go (p == q) (turn_of g == t) refl all (fine_from game q t log (i + 1) os h)
  where
    here : Sighting
    here = record { spot = record { log = log; entry = i }; frame = g }

    go : (b c : Bool) → (turn_of g == t) ≡ c → EachIs (Conforms game os) ((if b then g ∷ [] else []) ++ flat_map (got_in q) h) →
        (EachIs (Conforms game os) (flat_map (got_in q) h) → EachIs (IsFine game os t) (sightings_from q t log (i + 1) h)) →
        EachIs (IsFine game os t) ((if b && c then here ∷ [] else []) ++ sightings_from q t log (i + 1) h)
    go false c e all ih = ih all
    go true false e all ih = ih all.1
    go true true e all ih = ((eqb-true _ _ e, all.0), ih all.1)

fine_among : (game : Game) (q t n : ℕ) (os : List Opening) (logs : List (List Entry)) → AllGotConform game q os logs → EachIs (IsFine game os t) (sightings q t n logs)
unfolding sightings got_of
fine_among game q t n os [] all = tt
fine_among game q t n os (g ∷ logs) all = each_append _ (sightings_from q t n 0 g) _ (fine_from game q t n 0 os g all.0) (fine_among game q t (n + 1) os logs all.1)

no_pair : {X : Type 0} (test : X → X → Bool) (P : X → Type 0) → ((x y : X) → P x → P y → test x y ≡ false) → (xs : List X) → EachIs P xs → first_pair test xs ≡ None
unfolding first_pair
no_pair test P never [] h = refl
no_pair {X} test P never (x ∷ xs) h =
    ap (λ (o : Option X). option_or (option_map (λ y. (x, y)) o) (first_pair test xs)) (none xs h.1) ∙ no_pair test P never xs h.1
  where
    none : (ys : List X) → EachIs P ys → find (test x) ys ≡ None
    none [] k = refl
    none (y ∷ ys) k = cond-false (test x y) _ _ (never x y h.0 k.0) ∙ none ys k.1

got_conforms : (game : Game) (q i : ℕ) (os : List Opening) (logs : List (List Entry)) → AllGotConform game q os logs → EachIs (Conforms game os) (got_of q (item_or logs i []))
unfolding got_of
got_conforms game q i os [] all = tt
got_conforms game q zero os (g ∷ logs) all = all.0
got_conforms game q (suc i) os (g ∷ logs) all = got_conforms game q i os logs all.1

no_illegal_pair : (game : Game) (q t : ℕ) (os : List Opening) (logs : List (List Entry)) (a b : Sighting) →
    are_legal_from game q (start_track game q) (map (λ o. o.mv) os) ≡ true → AllGotConform game q os logs → IsFine game os t b → are_illegal game q t logs a b ≡ false
unfolding are_illegal
no_illegal_pair game q t os logs a b legal all fine =
    let k = known_chosen game q os (got_of q (item_or logs a.spot.log [])) (2 * game.turns) (got_conforms game q a.spot.log os logs all) in
    and_right _ _ (no_illegal game q t os (got_known game q (item_or logs a.spot.log [])) b.frame legal k fine.0 fine.1)

-- a player is not found of anything, where all that the logs got of it conforms to the legal moves that it chose
pub innocent : (game : Game) (q t : ℕ) (os : List Opening) (logs : List (List Entry)) (kind : Kind) →
    are_legal_from game q (start_track game q) (map (λ o. o.mv) os) ≡ true → AllGotConform game q os logs → finding_at game logs q t kind ≡ None
unfolding finding_at show_kind
innocent game q t os logs kind legal all =
    ap (option_map (finding_of q t kind)) (no_pair (show_kind game q t logs kind) (IsFine game os t) (never kind) (sightings q t 0 logs) (fine_among game q t 0 os logs all))
  where
    never : (k : Kind) (a b : Sighting) → IsFine game os t a → IsFine game os t b → show_kind game q t logs k a b ≡ false
    never TwoCommits a b x y = (no_unlike game os a.frame b.frame (x.0 ∙ sym y.0) x.1 y.1).0
    never BadOpening a b x y = (no_unlike game os a.frame b.frame (x.0 ∙ sym y.0) x.1 y.1).1
    never Collision a b x y = no_collision game os a.frame b.frame (x.0 ∙ sym y.0) x.1 y.1
    never Illegal a b x y =
        let there = no_illegal_pair game q t os logs a b legal all y in
        let back = no_illegal_pair game q t os logs b a legal all x in
        grind (arith, there, back)
