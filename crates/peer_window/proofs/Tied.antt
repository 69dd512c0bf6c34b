-- Tied: a window's words and those of a log that got its frames.
use Rattle.std.proofs.Common.{◌≡◌, ℕ, suc, ◌+◌, ◌*◌, ◌<◌, List, [], ◌∷◌, ◌++◌, append_assoc, length, refl, Bool, true, false, sym, ◌∙◌, ap, arith, Option, Some, None}
use Rattle.std.specs.Prelude.{◌==◌, ◌&&◌, ◌||◌, not, cond, find, if◌then◌else◌, map, nat_le, nat_lt, option_map, slice_get}
use Rattle.std.specs.List.{list_any, range_with_len}
use Rattle.std.specs.Option.{option_or}
use Rattle.std.proofs.lemmas.Bool.{cond-false, eq-eqb, eqb-true, false≢true, ne_eqb}
use Rattle.definitions.specs.declared.frames.TurnFrame.{TurnFrame}
use Rattle.definitions.specs.declared.logs.Entry.{Entry}
use Rattle.definitions.specs.declared.logs.Entry.TheVariants.{Chose, Made, Got}
use Rattle.definitions.specs.declared.findings.Finding.{Finding}
use Rattle.definitions.specs.declared.findings.Kind.{Kind}
use Rattle.definitions.specs.declared.findings.Kind.TheVariants.{TwoCommits, BadOpening, Collision, Illegal}
use Rattle.definitions.specs.declared.answers.GotAnswer.{GotAnswer}
use Rattle.definitions.specs.declared.answers.GotAnswer.TheVariants as G
use Rattle.definitions.specs.Lists.{EachIs, first_of}
use Rattle.definitions.specs.World.{Game, players_of}
use Rattle.definitions.specs.Logs.{entry_eq, frame_eq, got_of, made, turn_of}
use Rattle.definitions.specs.Held.{Known, known, known_to, places_in}
use Rattle.definitions.specs.Findings.{Sighting, are_illegal, finding_at, finding_of, findings, first_pair, got_known, is_clean, is_commit, is_first_commit, is_illegal_at, kinds, show_kind, sightings, sightings_from}
use Rattle.definitions.specs.Answers as A
use Rattle.definitions.specs.Answers.{got_answer, is_of_another}
use Rattle.definition_laws.proofs.Alike.{frame_eq_same, frame_eq_true}
use Rattle.definition_laws.proofs.Listing.{append_nil}
use Rattle.definition_laws.specs.First as F
use Rattle.definition_laws.proofs.FirstFinding.{first_is}
use Rattle.peer_window.specs.declared.received.Received.{Received}
use Rattle.peer_window.specs.declared.received.Offer.{Offer}
use Rattle.peer_window.specs.declared.received.Offer.TheVariants.{Taken, Stashed, Same, Far}
use Rattle.peer_window.specs.Clashes.{clash_among, clash_in, clash_of, first_clash, is_first, of_turn, show}
use Rattle.peer_window.specs.Slots.{frames_in}
use Rattle.peer_window.specs.Windows.{IsWindow, Seen, answer, is_far, is_same, new_answer, with_frame}
use Rattle.peer_window.specs.Logged.{IsSeenIn, answer_of_offer, received_from, received_in}

-- the frames that were got are those that were received
pub got_received : (q i : ℕ) (h : List Entry) → got_of q h ≡ frames_in (received_from q i h)
unfolding got_of
got_received q i [] = refl
got_received q i (Chose t m n ∷ h) = got_received q (i + 1) h
got_received q i (Made f ∷ h) = got_received q (i + 1) h
got_received q i (Got p f ∷ h) = go (p == q) (got_received q (i + 1) h)
  where
    go : (b : Bool) → got_of q h ≡ frames_in (received_from q (i + 1) h) → (if b then f ∷ [] else []) ++ got_of q h ≡ frames_in ((if b then record { entry = i; frame = f } ∷ [] else []) ++ received_from q (i + 1) h)
    go true ih = ap (λ (fs : List TurnFrame). f ∷ fs) ih
    go false ih = ih

-- a window shows what the log shows
pub shows_log : (game : Game) (me : ℕ) (h : List Entry) (w : Seen) → IsWindow game w → IsSeenIn me h w → w.known ≡ known game me h w.player
unfolding known
shows_log game me h w window seen =
    window.known
    ∙ ap (λ (fs : List TurnFrame). known_to game w.player fs (2 * game.turns))
    (ap frames_in seen.frames ∙ sym (got_received w.player 0 h) ∙ sym (cond-false (w.player == me) (made h) (got_of w.player h) (ne_eqb w.player me seen.other)))

-- entry numbers
pub received_below : (q i : ℕ) (h : List Entry) → EachIs (λ r. r.entry < i + length h) (received_from q i h)
received_below q i [] = tt
received_below q i (Chose t m n ∷ h) = more (received_from q (i + 1) h) (received_below q (i + 1) h)
  where
    more : (rs : List Received) → EachIs (λ r. r.entry < i + 1 + length h) rs → EachIs (λ r. r.entry < i + suc (length h)) rs
    more [] k = tt
    more (r ∷ rs) k = let lt = k.0 in (omega arith, more rs k.1)
received_below q i (Made f ∷ h) = more (received_from q (i + 1) h) (received_below q (i + 1) h)
  where
    more : (rs : List Received) → EachIs (λ r. r.entry < i + 1 + length h) rs → EachIs (λ r. r.entry < i + suc (length h)) rs
    more [] k = tt
    more (r ∷ rs) k = let lt = k.0 in (omega arith, more rs k.1)
received_below q i (Got p f ∷ h) = go (p == q) (more (received_from q (i + 1) h) (received_below q (i + 1) h))
  where
    more : (rs : List Received) → EachIs (λ r. r.entry < i + 1 + length h) rs → EachIs (λ r. r.entry < i + suc (length h)) rs
    more [] k = tt
    more (r ∷ rs) k = let lt = k.0 in (omega arith, more rs k.1)

    go : (b : Bool) → EachIs (λ r. r.entry < i + suc (length h)) (received_from q (i + 1) h) → EachIs (λ r. r.entry < i + suc (length h)) ((if b then record { entry = i; frame = f } ∷ [] else []) ++ received_from q (i + 1) h)
    go true k = (omega arith, k)
    go false k = k

pub received_append : (q i : ℕ) (h : List Entry) (e : Entry) → received_from q i (h ++ e ∷ []) ≡ received_from q i h ++ received_in q (i + length h) e
received_append q i [] e = append_nil (received_in q i e) ∙ ap (λ (n : ℕ). received_in q n e) (let at : i ≡ i + 0 = omega arith in at)
received_append q i (x ∷ h) e =
    ap (λ (rs : List Received). received_in q i x ++ rs) (received_append q (i + 1) h e ∙ ap (λ (n : ℕ). received_from q (i + 1) h ++ received_in q n e) (let at : i + 1 + length h ≡ i + suc (length h) = omega arith in at))
    ∙ sym (append_assoc (received_in q i x) (received_from q (i + 1) h) (received_in q (i + suc (length h)) e))

pub received_one_more : (q : ℕ) (h : List Entry) (f : TurnFrame) → received_from q 0 (h ++ Got q f ∷ []) ≡ received_from q 0 h ++ record { entry = length h; frame = f } ∷ []
received_one_more q h f =
    received_append q 0 h (Got q f)
    ∙ ap (λ (b : Bool). received_from q 0 h ++ (if b then record { entry = 0 + length h; frame = f } ∷ [] else [])) (eq-eqb q q refl)
    ∙ ap (λ (n : ℕ). received_from q 0 h ++ record { entry = n; frame = f } ∷ []) (let at : 0 + length h ≡ length h = omega arith in at)

pub received_another : (q : ℕ) (h : List Entry) (e : Entry) → received_in q (length h) e ≡ [] → received_from q 0 (h ++ e ∷ []) ≡ received_from q 0 h
received_another q h e none =
    received_append q 0 h e
    ∙ ap (λ (n : ℕ). received_from q 0 h ++ received_in q n e) (let at : 0 + length h ≡ length h = omega arith in at)
    ∙ ap (λ (rs : List Received). received_from q 0 h ++ rs) none ∙ append_nil (received_from q 0 h)

-- an equal frame, either way
frame_sym : (f g : TurnFrame) → frame_eq f g ≡ frame_eq g f
frame_sym f g = go (frame_eq f g) refl (frame_eq g f) refl
  where
    go : (x : Bool) → frame_eq f g ≡ x → (y : Bool) → frame_eq g f ≡ y → x ≡ y
    go true e true k = refl
    go false e false k = refl
    go true e false k = sym (ap (frame_eq g) (frame_eq_true f g e) ∙ frame_eq_same g) ∙ k
    go false e true k = sym e ∙ (ap (frame_eq f) (frame_eq_true g f k) ∙ frame_eq_same f)

number_sym : (a b : ℕ) → (a == b) ≡ (b == a)
number_sym a b = go (a == b) refl
  where
    go : (x : Bool) → (a == b) ≡ x → x ≡ (b == a)
    go true e = sym (eq-eqb b a (sym (eqb-true a b e)))
    go false e = sym (ne_eqb b a (λ k. false≢true (sym e ∙ eq-eqb a b (sym k))))

same_received : (q i : ℕ) (h : List Entry) (f : TurnFrame) → list_any (entry_eq (Got q f)) h ≡ list_any (λ r. frame_eq r.frame f) (received_from q i h)
same_received q i [] f = refl
same_received q i (Chose t m n ∷ h) f = same_received q (i + 1) h f
same_received q i (Made g ∷ h) f = same_received q (i + 1) h f
same_received q i (Got p g ∷ h) f =
    ap (λ (b : Bool). (b && frame_eq f g) || list_any (entry_eq (Got q f)) h) (number_sym q p)
    ∙ ap (λ (b : Bool). ((p == q) && b) || list_any (entry_eq (Got q f)) h) (frame_sym f g) ∙ go (p == q) (same_received q (i + 1) h f)
  where
    go : (b : Bool) → list_any (entry_eq (Got q f)) h ≡ list_any (λ r. frame_eq r.frame f) (received_from q (i + 1) h) →
        ((b && frame_eq g f) || list_any (entry_eq (Got q f)) h) ≡ list_any (λ r. frame_eq r.frame f) ((if b then record { entry = i; frame = g } ∷ [] else []) ++ received_from q (i + 1) h)
    go true ih = ap (λ (b : Bool). frame_eq g f || b) ih
    go false ih = ih

-- the sightings of a turn
seen : Received → Sighting
seen r = record { spot = record { log = 0; entry = r.entry }; frame = r.frame }

sightings_received : (q t i : ℕ) (h : List Entry) → sightings_from q t 0 i h ≡ map seen (of_turn t (received_from q i h))
unfolding sightings_from seen
sightings_received q t i [] = refl
sightings_received q t i (Chose u m n ∷ h) = sightings_received q t (i + 1) h
sightings_received q t i (Made f ∷ h) = sightings_received q t (i + 1) h
sightings_received q t i (Got p f ∷ h) = go (p == q) (turn_of f == t) refl (sightings_received q t (i + 1) h)
  where
    go : (b c : Bool) → (turn_of f == t) ≡ c → sightings_from q t 0 (i + 1) h ≡ map seen (of_turn t (received_from q (i + 1) h)) →
        (if b && c then record { spot = record { log = 0; entry = i }; frame = f } ∷ [] else []) ++ sightings_from q t 0 (i + 1) h
        ≡ map seen (of_turn t ((if b then record { entry = i; frame = f } ∷ [] else []) ++ received_from q (i + 1) h))
    go false c e ih = ih
    go true true e ih =
        ap (λ (ss : List Sighting). record { spot = record { log = 0; entry = i }; frame = f } ∷ ss) ih
        ∙ sym (ap (λ (b : Bool). map seen (cond b (record { entry = i; frame = f } ∷ of_turn t (received_from q (i + 1) h)) (of_turn t (received_from q (i + 1) h)))) e)
    go true false e ih = ih ∙ sym (ap (λ (b : Bool). map seen (cond b (record { entry = i; frame = f } ∷ of_turn t (received_from q (i + 1) h)) (of_turn t (received_from q (i + 1) h)))) e)

find_map : {X Y : Type 0} (g : X → Y) (p : Y → Bool) (p' : X → Bool) (xs : List X) → ((x : X) → p (g x) ≡ p' x) → find p (map g xs) ≡ option_map g (find p' xs)
find_map g p p' [] h = refl
find_map {X} {Y} g p p' (x ∷ xs) h = ap (λ (b : Bool). cond b (Some (g x)) (find p (map g xs))) (h x) ∙ go (p' x) (find_map g p p' xs h)
  where
    go : (b : Bool) → find p (map g xs) ≡ option_map g (find p' xs) → cond b (Some (g x)) (find p (map g xs)) ≡ option_map g (cond b (Some x) (find p' xs))
    go true ih = refl
    go false ih = ih

-- the finding of the first pair is the clash of the first pair
pair_map : (q t : ℕ) (k : Kind) (test : Sighting → Sighting → Bool) (test' : Received → Received → Bool) (rs : List Received) → ((x y : Received) → test (seen x) (seen y) ≡ test' x y) →
    option_map (finding_of q t k) (first_pair test (map seen rs)) ≡ option_map (clash_of q t k) (first_pair test' rs)
unfolding first_pair seen
pair_map q t k test test' [] h = refl
pair_map q t k test test' (x ∷ rs) h =
    ap (λ (o : Option Sighting). option_map (finding_of q t k) (option_or (option_map (λ y. (seen x, y)) o) (first_pair test (map seen rs)))) (find_map seen (test (seen x)) (test' x) rs (h x))
    ∙ go (find (test' x) rs) (pair_map q t k test test' rs h)
  where
    go : (o : Option Received) → option_map (finding_of q t k) (first_pair test (map seen rs)) ≡ option_map (clash_of q t k) (first_pair test' rs) →
        option_map (finding_of q t k) (option_or (option_map (λ y. (seen x, y)) (option_map seen o)) (first_pair test (map seen rs)))
        ≡ option_map (clash_of q t k) (option_or (option_map (λ y. (x, y)) o) (first_pair test' rs))
    go None ih = ih
    go (Some y) ih = refl

first_commit_is : (rs : List Received) (a : Received) → is_first_commit (map seen rs) (seen a) ≡ is_first rs a
unfolding seen
first_commit_is [] a = refl
first_commit_is (r ∷ rs) a = ap (λ (b : Bool). if is_commit r.frame then r.entry == a.entry else b) (first_commit_is rs a)

-- the tests of a log alone are those of the frames received
illegal_is : (game : Game) (q t : ℕ) (h : List Entry) (a b : Received) →
    are_illegal game q t (h ∷ []) (seen a) (seen b) ≡ (is_first (of_turn t (received_from q 0 h)) a && is_illegal_at game q t (known_to game q (frames_in (received_from q 0 h)) (2 * game.turns)) b.frame)
unfolding are_illegal seen
illegal_is game q t h a b =
    ap (λ (ss : List Sighting). is_first_commit ss (seen a) && is_illegal_at game q t (got_known game q h) b.frame) (sightings_received q t 0 h)
    ∙ ap (λ (c : Bool). c && is_illegal_at game q t (got_known game q h) b.frame) (first_commit_is (of_turn t (received_from q 0 h)) a)
    ∙ ap (λ (fs : List TurnFrame). is_first (of_turn t (received_from q 0 h)) a && is_illegal_at game q t (known_to game q fs (2 * game.turns)) b.frame) (got_received q 0 h)

shown_is : (game : Game) (q t : ℕ) (h : List Entry) (k : Kind) (a b : Received) →
    show_kind game q t (h ∷ []) k (seen a) (seen b) ≡ show game q t (known_to game q (frames_in (received_from q 0 h)) (2 * game.turns)) (of_turn t (received_from q 0 h)) k a b
unfolding show_kind seen
shown_is game q t h TwoCommits a b = refl
shown_is game q t h BadOpening a b = refl
shown_is game q t h Collision a b = refl
shown_is game q t h Illegal a b =
    ap (λ (c : Bool). c || are_illegal game q t (h ∷ []) (seen b) (seen a)) (illegal_is game q t h a b)
    ∙ ap (λ (c : Bool). (is_first (of_turn t (received_from q 0 h)) a && is_illegal_at game q t (known_to game q (frames_in (received_from q 0 h)) (2 * game.turns)) b.frame) || c) (illegal_is game q t h b a)

finding_is : (game : Game) (q t : ℕ) (h : List Entry) (k : Kind) →
    finding_at game (h ∷ []) q t k ≡ clash_among game q t (known_to game q (frames_in (received_from q 0 h)) (2 * game.turns)) (of_turn t (received_from q 0 h)) k
unfolding finding_at sightings clash_among
finding_is game q t h k =
    ap (λ (ss : List Sighting). option_map (finding_of q t k) (first_pair (show_kind game q t (h ∷ []) k) ss)) (append_nil (sightings_from q t 0 0 h) ∙ sightings_received q t 0 h)
    ∙ pair_map q t k (show_kind game q t (h ∷ []) k) (show game q t (known_to game q (frames_in (received_from q 0 h)) (2 * game.turns)) (of_turn t (received_from q 0 h)) k) (of_turn t (received_from q 0 h)) (shown_is game q t h k)

first_same : {X Y : Type 0} (f g : X → Option Y) (xs : List X) → ((x : X) → f x ≡ g x) → first_of f xs ≡ first_of g xs
first_same f g [] h = refl
first_same f g (x ∷ xs) h = ap (λ o. option_or o (first_of f xs)) (h x) ∙ ap (option_or (g x)) (first_same f g xs h)

-- the first finding of the log with the frame
log_finding : (game : Game) (q : ℕ) (h : List Entry) (f : TurnFrame) → q < players_of game → is_clean game h ≡ true →
    slice_get (findings game ((h ++ Got q f ∷ []) ∷ [])) 0 ≡ first_clash game q (received_from q 0 h ++ record { entry = length h; frame = f } ∷ [])
unfolding first_clash clash_in
log_finding game q h f lt clean =
    first_is game q (h ++ Got q f ∷ []) lt (record { before = h; frame = f; clean = clean; stands = refl })
    ∙ first_same (F.finding_of_turn game (h ++ Got q f ∷ []) q) (clash_in game q (received_from q 0 (h ++ Got q f ∷ []))) (range_with_len 0 game.turns)
    (λ t. first_same (finding_at game ((h ++ Got q f ∷ []) ∷ []) q t) (clash_among game q t (known_to game q (frames_in (received_from q 0 (h ++ Got q f ∷ []))) (2 * game.turns)) (of_turn t (received_from q 0 (h ++ Got q f ∷ [])))) kinds
    (finding_is game q t (h ++ Got q f ∷ [])))
    ∙ ap (λ (rs : List Received). first_of (clash_in game q rs) (range_with_len 0 game.turns)) (received_one_more q h f)

new_is : (game : Game) (next : ℕ) (fs : List Finding) (f : TurnFrame) (o : Option Finding) (b : Bool) → slice_get fs 0 ≡ o → (A.place_of game f == next) ≡ b → A.new_answer game next fs f ≡ answer_of_offer (new_answer o b)
new_is game next [] f None b e g = ap (λ (c : Bool). if c then G.Taken else G.Stashed) g ∙ go b
  where
    go : (c : Bool) → (if c then G.Taken else G.Stashed) ≡ answer_of_offer (if c then Taken else Stashed)
    go true = refl
    go false = refl
new_is game next [] f (Some x) b e g = absurd (let none : None ≡ Some x = e in cc)
new_is game next (y ∷ fs) f None b e g = absurd (let none : Some y ≡ None = e in cc)
new_is game next (y ∷ fs) f (Some x) b e g = let same : y ≡ x = cc in ap (λ (z : Finding). G.Caught z) same

by_tests : (far same : Bool) (new : Offer) → (if far then G.Far else if same then G.Same else answer_of_offer new) ≡ answer_of_offer (if far then Far else if same then Same else new)
by_tests true same new = refl
by_tests false true new = refl
by_tests false false new = refl

-- a window answers as the log does
pub answers_log : (game : Game) (me : ℕ) (h : List Entry) (w : Seen) (f : TurnFrame) → IsWindow game w → IsSeenIn me h w → is_clean game h ≡ true → is_of_another game me w.player f ≡ true →
    got_answer game me h w.player f ≡ answer_of_offer (answer game w (record { entry = length h; frame = f }))
unfolding got_answer A.is_far A.is_same
answers_log game me h w f window seen_in clean another =
    cond-false (not (is_clean game h)) _ _ (ap not clean) ∙ cond-false (not (is_of_another game me w.player f)) _ _ (ap not another)
    ∙ ap (λ (k : Known). if nat_lt (places_in k + 8) (A.place_of game f) || nat_le (2 * game.turns) (A.place_of game f) then G.Far else if list_any (entry_eq (Got w.player f)) h then G.Same
    else A.new_answer game (places_in k) (findings game ((h ++ Got w.player f ∷ []) ∷ [])) f) (sym (shows_log game me h w window seen_in))
    ∙ ap (λ (b : Bool). if is_far game w f then G.Far else if b then G.Same else A.new_answer game (places_in w.known) (findings game ((h ++ Got w.player f ∷ []) ∷ [])) f)
    (same_received w.player 0 h f ∙ ap (list_any (λ r. frame_eq r.frame f)) (sym seen_in.frames))
    ∙ ap (λ (a : GotAnswer). if is_far game w f then G.Far else if is_same w f then G.Same else a)
    (new_is game (places_in w.known) (findings game ((h ++ Got w.player f ∷ []) ∷ [])) f (first_clash game w.player (with_frame w (record { entry = length h; frame = f }))) (A.place_of game f == places_in w.known)
    (log_finding game w.player h f window.player clean ∙ ap (λ (rs : List Received). first_clash game w.player (rs ++ record { entry = length h; frame = f } ∷ [])) (sym seen_in.frames)) refl)
    ∙ by_tests (is_far game w f) (is_same w f) _
