-- Plainly: where at most one commitment and one reveal are kept of a turn, no log shows anything against the player in it, and all that
-- resolve it do so by one move.
use Rattle.std.proofs.Common.{Bool, List, None, Some, [], ap, arith, false, inl, inr, length, refl, slice_index_or, subst, suc, sym, true, zero, ℕ, ◌*◌, ◌++◌, ◌+◌, ◌<◌, ◌≤◌, ◌∙◌, ◌∷◌, ◌≡◌, Option, slice_get, take}
use Rattle.std.specs.Prelude.{◌&&◌, ◌||◌, ◌==◌, IsTrue, Result, flat_map, if◌then◌else◌, is_none, not, option_map}
use Rattle.std.specs.List.{range_with_len}
use Rattle.std.specs.Option.{option_or}
use Rattle.std.specs.Result.{result_ok}
use Rattle.std.proofs.Math.Bool.{beq}
use Rattle.std.proofs.lemmas.Bool.{and_parts, cases_lt, eqb-true, false≢true, leb-true}
use Rattle.definitions.specs.declared.findings.Kind.{Kind}
use Rattle.definitions.specs.declared.findings.Kind.TheVariants.{BadOpening, Collision, Illegal, TwoCommits}
use Rattle.definitions.specs.declared.findings.Finding.{Finding}
use Rattle.definitions.specs.declared.world.Move.{Move}
use Rattle.definitions.specs.declared.world.MoveFault.{MoveFault}
use Rattle.definitions.specs.declared.world.Track.{Track}
use Rattle.definitions.specs.declared.frames.TurnFrame.{TurnFrame}
use Rattle.definitions.specs.declared.frames.TurnFrame.TheVariants.{Commit, Reveal}
use Rattle.definitions.specs.declared.logs.Entry.{Entry}
use Rattle.definitions.specs.declared.logs.Entry.TheVariants.{Chose, Got, Made}
use Rattle.definitions.specs.Findings.{Sighting, are_collision, are_illegal, finding_at, finding_of, findings_in, got_known, is_commit, is_illegal_at, is_reveal, opens, same_digest, show_kind, sightings}
use Rattle.definitions.specs.Held.{digest_of}
use Rattle.definitions.specs.Lists.{item_or}
use Rattle.definitions.specs.Logs.{digest_eq, frame_eq, got_in, got_of, move_shown, turn_of}
use Rattle.definitions.specs.Moves.{is_legal, move_fault, next_track, start_track, track_after}
use Rattle.definitions.specs.World.{Game, is_open, players_of}
use Rattle.definition_laws.specs.Members.{Has}
use Rattle.definition_laws.specs.Spots.{IsSighting}
use Rattle.definition_laws.proofs.Alike.{digest_eq_same, digest_eq_true, frame_eq_same}
use Rattle.definition_laws.proofs.Headline.{known_to_sound}
use Rattle.definition_laws.proofs.Listing.{take_more}
use Rattle.definition_laws.proofs.Members.{Has_middle, Has_slice_get, flat_map_Has}
use Rattle.definition_laws.proofs.Nexts.{some_at}
use Rattle.definition_laws.proofs.Sighted.{seen_is_sighting}
use Rattle.definition_laws.proofs.Tracks.{track_from_append}
use Rattle.grid_world.specs.Sessions.{IsSession}
use Rattle.grid_world.specs.declared.streams.Stream.{Stream}
use Rattle.frame_index.proofs.StreamsShown.{stream_facts, stream_none}
use Rattle.move_rules.specs.Verdicts.{judged as verdict_by, verdict}
use Rattle.frame_index.specs.declared.seen.Seen.{Seen}
use Rattle.frame_index.specs.declared.kept.KeptFrame.{KeptFrame}
use Rattle.frame_index.specs.Frames.{IndexState, IsIndex, kept_of}
use Rattle.frame_index.specs.Kept.{seen_of}
use Rattle.frame_index.specs.Plain.{AreAlong, IsPlain, IsPlainTurn, LeadsTo, move_in}
use Rattle.frame_index.proofs.Growing.{has_kept}
use Rattle.frame_index.proofs.Judging.{led_open}
use Rattle.frame_index.proofs.Lifted.{no_pair}
use Rattle.frame_index.proofs.Wrong.{item_is}

-- an entry of which a frame was got of the player
pub got_entry : (q : ℕ) (f : TurnFrame) (e : Entry) → Has (got_in q e) f → e ≡ Got q f
got_entry q f (Chose u n o) x = absurd x
got_entry q f (Made g) x = absurd x
got_entry q f (Got p g) x = by (p == q) refl x
  where
    by : (b : Bool) → (p == q) ≡ b → Has (if b then g ∷ [] else []) f → Got p g ≡ Got q f
    by true y (inl z) = λ j. Got (eqb-true p q y j) (z j)
    by true y (inr z) = absurd z
    by false y z = absurd z

-- a legal move leads on
next_by : (game : Game) (track next : Track) (m : Move) (x : Option MoveFault) → result_ok (verdict_by game track m x) ≡ Some next → (is_none x ≡ true) × (next ≡ next_track game track m)
next_by game track next m None h = (refl, let s : Some (next_track game track m) ≡ Some next = h in let same : next_track game track m ≡ next = cc in sym same)
next_by game track next m (Some fault) h = absurd (let s : None ≡ Some next = h in cc)

next_is : (game : Game) (q : ℕ) (track next : Track) (m : Move) → result_ok (verdict game q track m) ≡ Some next → (is_legal game q track m ≡ true) × (next ≡ next_track game track m)
unfolding is_legal
next_is game q track next m h = next_by game track next m (move_fault game q track m) h

pub legal_led : (game : Game) (q : ℕ) (track : Track) (m : Move) (r : Result Track MoveFault) (o : Option Track) → r ≡ verdict game q track m → o ≡ result_ok r → LeadsTo game q track (Some m) o
legal_led game q track m r None e f = tt
legal_led game q track m r (Some next) e f =
    let led : result_ok (verdict game q track m) ≡ Some next = ap result_ok (sym e) ∙ sym f in
    let so = next_is game q track next m led in
    record { legal = so.0; leads = so.1; opens = led_open game q track next m led }

-- the reveal that is kept shows the move
pub move_is : (ks : List KeptFrame) → IsPlain ks → (k : KeptFrame) (m : Move) → Has ks k → move_shown k.frame ≡ Some m → move_in ks ≡ Some m
move_is [] plain k m has e = absurd has
move_is (y ∷ ys) plain k m has e = go (move_shown y.frame) refl has (λ there. move_is ys (λ a b p r. plain a b (inr p) (inr r)) k m there e)
  where
    commit_shows : (f : TurnFrame) → move_shown f ≡ None → is_commit f ≡ true
    commit_shows (Commit p t d) x = refl
    commit_shows (Reveal p t n o) x = absurd (let s : Some n ≡ None = x in cc)

    reveal_shows : (f : TurnFrame) (n : Move) → move_shown f ≡ Some n → is_commit f ≡ false
    reveal_shows (Commit p t d) n x = absurd (let s : None ≡ Some n = x in cc)
    reveal_shows (Reveal p t o v) n x = refl

    go : (o : Option Move) → move_shown y.frame ≡ o → Has (y ∷ ys) k → (Has ys k → move_in ys ≡ Some m) → option_or o (move_in ys) ≡ Some m
    go None x (inl same) ih = absurd (let s : None ≡ Some m = sym x ∙ ap (λ (z : KeptFrame). move_shown z.frame) same ∙ e in cc)
    go None x (inr there) ih = ih there
    go (Some n) x there ih =
        let one = (plain y k (inl refl) there).1 (reveal_shows y.frame n x ∙ sym (reveal_shows k.frame m e)) in
        sym x ∙ ap (λ (z : KeptFrame). move_shown z.frame) one ∙ e

module _ (game : Game) (q t : ℕ) (logs : List (List Entry)) (index : IndexState) (w : IsIndex game logs index) where
  abbrev Ks : List KeptFrame
  Ks = kept_of index q t

  -- a frame of the turn that a log got is kept
  pub sighted_kept : (s : Sighting) → IsSighting logs q t s → (k : KeptFrame) × Has Ks k × (k.frame ≡ s.frame) × (k.digest ≡ digest_of game s.frame)
  sighted_kept s v =
      let r = (w.stands q t).firsts s v in
      let k = flat_map_Has seen_of Ks r.0 r.1 in
      let x = has_kept k.0 r.0 k.2 in
      let frame : k.0.frame ≡ s.frame = ap (λ (y : Seen). y.frame) x.2 ∙ r.2.frame in
      (k.0, k.1, frame, (w.own q t k.0 k.1).2 ∙ ap (digest_of game) frame)

  got_kept : (i : ℕ) (h : List Entry) (f : TurnFrame) → slice_get logs i ≡ Some h → Has (got_of q h) f → turn_of f ≡ t → (k : KeptFrame) × Has Ks k × (k.frame ≡ f)
  unfolding got_of
  got_kept i h f there m turn =
      let e = flat_map_Has (got_in q) h f m in
      let at = Has_slice_get h e.0 e.1 in
      let r = sighted_kept (record { spot = record { log = i; entry = at.0 }; frame = f })
      (record { log = h; there = there; got = at.1 ∙ ap (λ (x : Entry). Some x) (got_entry q f e.0 e.2); turn = turn }) in
      (r.0, r.1, r.2)

  module _ (plain : IsPlain Ks) where
    -- a move by which a log resolves the turn is that of the reveal that is kept
    pub resolved_move : (i : ℕ) (h : List Entry) (m : Move) → slice_get logs i ≡ Some h → slice_get (got_known game q h).moves t ≡ Some m → move_in Ks ≡ Some m
    resolved_move i h m there at =
        let s = (known_to_sound game q (got_of q h) (2 * game.turns)).opens t m at in
        let o = s.2 in
        let k = got_kept i h (Reveal o.player t m o.nonce) there (subst (λ (fs : List TurnFrame). Has fs (Reveal o.player t m o.nonce)) (sym o.stands) (Has_middle o.front o.rest (Reveal o.player t m o.nonce))) refl in
        move_is Ks plain k.0 m k.1 (ap move_shown k.2)

    -- a turn further
    pub along_on : (track next : Track) → LeadsTo game q track (move_in Ks) (Some next) → AreAlong game q logs t track → AreAlong game q logs (t + 1) next
    along_on track next led along i h there le =
        let ms : List Move = (got_known game q h).moves in
        let m = some_at ms t (omega (arith, le)) in
        let is = resolved_move i h m.0 there m.1 in
        let to : LeadsTo game q track (Some m.0) (Some next) = subst (λ (o : Option Move). LeadsTo game q track o (Some next)) is led in
        ap (track_after game q) (take_more t ms m.0 m.1) ∙ track_from_append game (start_track game q) (take t ms) (m.0 ∷ [])
        ∙ ap (λ (x : Track). next_track game x m.0) (along i h there (omega (arith, le))) ∙ sym to.leads

    same : (a b : Sighting) → IsSighting logs q t a → IsSighting logs q t b → same_digest game a.frame b.frame ≡ true
    same a b va vb =
        let k = sighted_kept a va in
        let l = sighted_kept b vb in
        let one : digest_of game b.frame ≡ digest_of game a.frame = sym l.3 ∙ sym (plain k.0 l.0 k.1 l.1).0 ∙ k.3 in
        ap (digest_eq (digest_of game a.frame)) one ∙ digest_eq_same (digest_of game a.frame)

    never_same : (b c : Bool) → c ≡ true → (b && not c) ≡ true → ⊥
    never_same true true e h = absurd (false≢true h)
    never_same false true e h = absurd (false≢true h)
    never_same b false e h = absurd (false≢true e)

    one_reveal : (a b : Sighting) → IsSighting logs q t a → IsSighting logs q t b → is_reveal a.frame ≡ true → is_reveal b.frame ≡ true → a.frame ≡ b.frame
    one_reveal a b va vb ra rb =
        let k = sighted_kept a va in
        let l = sighted_kept b vb in
        sym k.2 ∙ ap (λ (z : KeptFrame). z.frame) ((plain k.0 l.0 k.1 l.1).1 (ap is_commit k.2 ∙ ap not (ra ∙ sym rb) ∙ sym (ap is_commit l.2))) ∙ l.2

    no_collision : (a b : Sighting) → IsSighting logs q t a → IsSighting logs q t b → are_collision game a.frame b.frame ≡ true → ⊥
    no_collision a b va vb h =
        let x = and_parts (is_reveal a.frame && is_reveal b.frame && not (frame_eq a.frame b.frame)) (same_digest game a.frame b.frame) h in
        let y = and_parts (is_reveal a.frame && is_reveal b.frame) (not (frame_eq a.frame b.frame)) x.0 in
        let z = and_parts (is_reveal a.frame) (is_reveal b.frame) y.0 in
        let eq : frame_eq a.frame b.frame ≡ true = ap (frame_eq a.frame) (sym (one_reveal a b va vb z.0 z.1)) ∙ frame_eq_same a.frame in
        false≢true (ap not (sym eq) ∙ y.1)

    -- no log shows that the reveal isn't legal
    no_illegal : (track : Track) (o : Option Track) → LeadsTo game q track (move_in Ks) o → (o ≡ None → ⊥) → AreAlong game q logs t track →
        (a b : Sighting) → IsSighting logs q t a → IsSighting logs q t b → are_illegal game q t logs a b ≡ true → ⊥
    unfolding are_illegal
    no_illegal track o led some along a b va vb h =
        let x = and_parts _ _ h in
        let log = eqb-true _ _ (and_parts _ _ x.0).0 in
        let at : is_illegal_at game q t (got_known game q vb.log) b.frame ≡ true =
        ap (λ (g : List Entry). is_illegal_at game q t (got_known game q g) b.frame) (sym (ap (λ (n : ℕ). item_or logs n []) log ∙ item_is logs b.spot.log vb.log vb.there)) ∙ x.1 in
        let y = and_parts _ _ at in
        let z = and_parts _ _ y.0 in
        wrong b.frame refl (ap (λ (tr : Track). illegal tr b.frame) (sym (along b.spot.log vb.log vb.there (leb-true t (length (got_known game q vb.log).moves) z.0))) ∙ y.1)
      where
        illegal : Track → TurnFrame → Bool
        illegal tr (Commit p u d) = false
        illegal tr (Reveal p u m n) = not (is_legal game q tr m)

        wrong : (f : TurnFrame) → b.frame ≡ f → illegal track f ≡ true → ⊥
        wrong (Commit p u d) e h = false≢true h
        wrong (Reveal p u m n) e h =
            let k = sighted_kept b vb in
            let is = move_is Ks plain k.0 m k.1 (ap move_shown (k.2 ∙ e)) in
            legal o (subst (λ (x : Option Move). LeadsTo game q track x o) is led) some
          where
            legal : (o : Option Track) → LeadsTo game q track (Some m) o → (o ≡ None → ⊥) → ⊥
            legal None l s = s refl
            legal (Some next) l s = false≢true (ap not (sym l.legal) ∙ h)

    none_of : (kind : Kind) → ((a b : Sighting) → IsSighting logs q t a → IsSighting logs q t b → show_kind game q t logs kind a b ≡ true → ⊥) → finding_at game logs q t kind ≡ None
    unfolding finding_at
    none_of kind never = ap (option_map (finding_of q t kind)) (no_pair (show_kind game q t logs kind) (sightings q t 0 logs)
        (λ a b ma mb h. never a b (seen_is_sighting q t logs a ma) (seen_is_sighting q t logs b mb) h))

    -- nothing is found in the turn
    pub nothing_found : (track : Track) (o : Option Track) → LeadsTo game q track (move_in Ks) o → (o ≡ None → ⊥) → AreAlong game q logs t track → findings_in game logs q t ≡ []
    unfolding findings_in show_kind
    nothing_found track o led some along =
        let one = none_of TwoCommits (λ a b va vb h. never_same (is_commit a.frame && is_commit b.frame) (same_digest game a.frame b.frame) (same a b va vb) h) in
        let two = none_of BadOpening (λ a b va vb h. never_same (is_reveal a.frame || is_reveal b.frame) (same_digest game a.frame b.frame) (same a b va vb) h) in
        let three = none_of Collision no_collision in
        let four = none_of Illegal (λ a b va vb h. either a b va vb (are_illegal game q t logs a b) refl h) in
        rw (one, two, three, four) refl
      where
        either : (a b : Sighting) → IsSighting logs q t a → IsSighting logs q t b → (k : Bool) → are_illegal game q t logs a b ≡ k → (k || are_illegal game q t logs b a) ≡ true → ⊥
        either a b va vb true e h = no_illegal track o led some along a b va vb e
        either a b va vb false e h = no_illegal track o led some along b a vb va h

-- of no turn all have come to the start
pub along_none : (game : Game) (q : ℕ) (logs : List (List Entry)) (track : Track) → track ≡ start_track game q → AreAlong game q logs 0 track
along_none game q logs track e i h there le = sym e

-- few frames are plain
pub plain_short : (ks : List KeptFrame) → length ks < 2 → IsPlain ks
plain_short [] lt k l mk ml = absurd mk
plain_short (y ∷ []) lt k l (inl e) (inl f) = let same : k ≡ l = sym e ∙ f in (ap (λ (z : KeptFrame). z.digest) same, λ c. same)
plain_short (y ∷ []) lt k l (inl e) (inr f) = absurd f
plain_short (y ∷ []) lt k l (inr e) m = absurd e
plain_short (y ∷ z ∷ ks) lt k l mk ml = absurd (omega (arith, lt))

differ : (x y : Bool) → not (beq x y) ≡ true → x ≡ y → ⊥
differ true true h e = false≢true h
differ false false h e = false≢true h
differ true false h e = false≢true (sym e)
differ false true h e = false≢true e

two_plain : (x y : KeptFrame) → (is_commit x.frame ≡ is_commit y.frame → ⊥) → x.digest ≡ y.digest → IsPlain (x ∷ y ∷ [])
two_plain x y apart one k l (inl e) (inl f) = let same : k ≡ l = sym e ∙ f in (ap (λ (z : KeptFrame). z.digest) same, λ c. same)
two_plain x y apart one k l (inl e) (inr (inl f)) =
    (ap (λ (z : KeptFrame). z.digest) (sym e) ∙ one ∙ ap (λ (z : KeptFrame). z.digest) f, λ c. absurd (apart (ap (λ (z : KeptFrame). is_commit z.frame) e ∙ c ∙ ap (λ (z : KeptFrame). is_commit z.frame) (sym f))))
two_plain x y apart one k l (inr (inl e)) (inl f) =
    (ap (λ (z : KeptFrame). z.digest) (sym e) ∙ sym one ∙ ap (λ (z : KeptFrame). z.digest) f, λ c. absurd (apart (ap (λ (z : KeptFrame). is_commit z.frame) f ∙ sym c ∙ ap (λ (z : KeptFrame). is_commit z.frame) (sym e))))
two_plain x y apart one k l (inr (inl e)) (inr (inl f)) = let same : k ≡ l = sym e ∙ f in (ap (λ (z : KeptFrame). z.digest) same, λ c. same)
two_plain x y apart one k l (inr (inr e)) m = absurd e
two_plain x y apart one k l (inl e) (inr (inr f)) = absurd f
two_plain x y apart one k l (inr (inl e)) (inr (inr f)) = absurd f

pub plain_two : (ks : List KeptFrame) (a b : KeptFrame) (c d : Bool) → 2 ≤ length ks → length ks < 3 → a ≡ slice_index_or ks 0 a → b ≡ slice_index_or ks 1 b → c ≡ is_commit a.frame → d ≡ is_commit b.frame →
    not (beq c d) ≡ true → digest_eq a.digest b.digest ≡ true → IsPlain ks
plain_two [] a b c d le lt x y e f n g = absurd (omega (arith, le))
plain_two (p ∷ []) a b c d le lt x y e f n g = absurd (omega (arith, le))
plain_two (p ∷ r ∷ []) a b c d le lt x y e f n g =
    two_plain p r (λ h. differ c d n (e ∙ ap (λ (z : KeptFrame). is_commit z.frame) x ∙ h ∙ ap (λ (z : KeptFrame). is_commit z.frame) (sym y) ∙ sym f))
    (ap (λ (z : KeptFrame). z.digest) (sym x) ∙ digest_eq_true a.digest b.digest g ∙ ap (λ (z : KeptFrame). z.digest) y)
plain_two (p ∷ r ∷ s ∷ ks) a b c d le lt x y e f n g = absurd (omega (arith, lt))

-- what is led to is open
pub led_opens : (game : Game) (q : ℕ) (track next : Track) (o : Option Move) → LeadsTo game q track o (Some next) → IsTrue (is_open game.grid track.at) → IsTrue (is_open game.grid next.at)
led_opens game q track next None same opens = subst (λ (tr : Track). IsTrue (is_open game.grid tr.at)) (sym same) opens
led_opens game q track next (Some m) led opens = led.opens

-- so is the start
pub start_opens : (game : Game) (q : ℕ) (track : Track) → IsSession game → q < players_of game → track ≡ start_track game q → IsTrue (is_open game.grid track.at)
start_opens game q track is lt e = subst (λ (s : Stream). IsTrue (is_open game.grid s.track.at)) (sym (stream_none game q [] track e)) (stream_facts game q 0 [] is lt).opens

-- where nothing is found in any turn
pub none_found : (f : ℕ → List Finding) (a n : ℕ) → ((t : ℕ) → a ≤ t → t < a + n → f t ≡ []) → flat_map f (range_with_len a n) ≡ []
none_found f a zero none = refl
none_found f a (suc n) none =
    ap (λ (xs : List Finding). xs ++ flat_map f (range_with_len (a + 1) n)) (none a (omega arith) (omega arith)) ∙ none_found f (a + 1) n (λ t le lt. none t (omega (arith, le)) (omega (arith, lt)))

-- nothing is found in the turns up to a plain one
pub none_more : (game : Game) (q t : ℕ) (logs : List (List Entry)) (index : IndexState) (w : IsIndex game logs index) (track next : Track) → IsPlainTurn game index q t track next → AreAlong game q logs t track →
    ((u : ℕ) → u < t → findings_in game logs q u ≡ []) → (u : ℕ) → u < t + 1 → findings_in game logs q u ≡ []
none_more game q t logs index w track next turn along before u lt = elim (cases_lt u t) [
  | inl less ↦ before u less
  | inr ge ↦
      let same : t ≡ u = omega (arith, lt, ge) in
      subst (λ n. findings_in game logs q n ≡ []) same
      (nothing_found game q t logs index w turn.plain track (Some next) turn.led (λ e. absurd (let s : Some next ≡ None = e in cc)) along)
]
