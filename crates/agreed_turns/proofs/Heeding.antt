-- Heeding: a player's turns while the entries at the end of one log are heeded.
use Rattle.std.proofs.Common.{List, None, Some, [], ap, append_assoc, arith, drop, inl, inr, length, length-append, refl, set, subst, suc, sym, take, take_all, zero, ℕ, ◌*◌, ◌+◌, ◌++◌, ◌<◌, ◌∙◌, ◌∷◌, ◌≡◌, ◌≤◌}
use Rattle.std.specs.Prelude.{filter_map, slice_get, ◌==◌}
use Rattle.std.specs.List.{range_with_len}
use Rattle.std.proofs.lemmas.Bool.{cases_eq, cond-false, cond-true, eq-eqb, ne_eqb}
use Rattle.std.proofs.lemmas.List.{length-set, take-append-drop}
use Rattle.std.proofs.lemmas.Option.{same_Some, slice_get_within}
use Rattle.definitions.specs.declared.frames.TurnFrame.{TurnFrame}
use Rattle.definitions.specs.declared.logs.Entry.{Entry}
use Rattle.definitions.specs.declared.world.Move.{Move}
use Rattle.definitions.specs.Held.{Known, known, known_to, next_known, places_in}
use Rattle.definitions.specs.Lists.{item_or}
use Rattle.definitions.specs.Logs.{frames_of, got_of, made}
use Rattle.definitions.specs.World.{Game}
use Rattle.definition_laws.proofs.Grows.{frames_of_append}
use Rattle.definition_laws.proofs.Knowing.{known_to_more, known_to_orderly}
use Rattle.definition_laws.proofs.Listing.{append_nil, take_more}
use Rattle.definition_laws.proofs.Nexts.{some_at}
use Rattle.definition_laws.proofs.Windows.{stuck_whole}
use Rattle.frame_index.specs.Frames.{IndexState}
use Rattle.frame_index.specs.Streams.{IsReadFrom, stream_of}
use Rattle.grid_world.specs.declared.streams.Stream.{Stream}
use Rattle.grid_world.specs.Streams.{next_of}
use Rattle.agreed_turns.specs.declared.accords.Accord.{Accord}
use Rattle.agreed_turns.specs.declared.heads.Head.{Head}
use Rattle.agreed_turns.specs.Accords.{accord_of, noted_from}
use Rattle.agreed_turns.specs.Agreed.{resolved_at}
use Rattle.agreed_turns.specs.Heads.{Hold, IsAtEnd, Shows, moves_to}
use Rattle.agreed_turns.specs.States.{AgreedState, AreSound, Heeded, Heeds, HeedsEntry, IsOf, IsOfPlayer, PlayerState, index_of, shown}
use Rattle.agreed_turns.proofs.Entered.{one_frame}
use Rattle.agreed_turns.proofs.Given.{same_given}
use Rattle.agreed_turns.proofs.Noted.{AreNoted, get_set, get_set_other, mixed, note_all}

pub item_at : {X : Type 0} (xs : List X) (i : ℕ) (x d : X) → slice_get xs i ≡ Some x → item_or xs i d ≡ x
item_at [] i x d e = absurd (let none : None ≡ Some x = e in cc)
item_at (y ∷ ys) zero x d e = let same : y ≡ x = cc in same
item_at (y ∷ ys) (suc i) x d e = item_at ys i x d e

item_other : {X : Type 0} (xs : List X) (i j : ℕ) (y d : X) → (j ≡ i → ⊥) → item_or (set xs i y) j d ≡ item_or xs j d
item_other [] i j y d ne = refl
item_other (z ∷ zs) zero zero y d ne = absurd (ne refl)
item_other (z ∷ zs) zero (suc j) y d ne = refl
item_other (z ∷ zs) (suc i) zero y d ne = refl
item_other (z ∷ zs) (suc i) (suc j) y d ne = item_other zs i j y d (λ e. ne (ap suc e))

-- as many places are there as the stream has
all_there : (game : Game) (q : ℕ) (fs : List TurnFrame) (s : Stream) → IsReadFrom game q fs s → places_in (known_to game q fs (next_of s)) ≡ next_of s
all_there game q fs s read =
    let commits = ap (λ (r : Stream). r.commits) read in
    let resolved = ap (λ (r : Stream). r.resolved) read in
    omega arith

-- longer frames show the same of the stream's places
same_known : (game : Game) (q : ℕ) (fs gs : List TurnFrame) (s : Stream) → IsReadFrom game q fs s → known_to game q fs (next_of s) ≡ known_to game q (fs ++ gs) (next_of s)
same_known game q fs gs s read = known_to_more game q fs gs (next_of s) (all_there game q fs s read)

-- a head at the end of frames is at their end too where more come behind them
end_longer : (game : Game) (q : ℕ) (fs gs : List TurnFrame) (h : Head) → IsAtEnd game q fs fs h → IsAtEnd game q fs (fs ++ gs) h
end_longer game q fs gs h at_end =
    let same = same_known game q fs gs h.stream at_end.read in
    record {
      read = at_end.read ∙ ap (stream_of game q) same;
      ends = ap (next_known game q fs) (sym same) ∙ at_end.ends ∙ same;
      held = λ d e. at_end.held d (ap (λ (k : Known). slice_get k.digests h.stream.resolved) same ∙ e);
    }

-- a log resolves the turns by the moves up to where the head is, which is at its end
by_head : (game : Game) (logs : List (List Entry)) (q t i : ℕ) (fs : List TurnFrame) (h : Head) → shown logs q i ≡ fs → IsAtEnd game q fs fs h →
    resolved_at game logs q t i ≡ slice_get (moves_to game q fs h.stream) t
unfolding known
by_head game logs q t i fs h is at_end =
    ap (λ (gs : List TurnFrame). slice_get (known_to game q gs (2 * game.turns)).moves t) is
    ∙ ap (λ (k : Known). slice_get k.moves t) (stuck_whole game q fs (next_of h.stream) at_end.ends)

-- The player's turns while the log of this number is heeded: so many of the frames that it shows in the end. The others are as in these logs.
pub record IsHeeding (game : Game) (logs : List (List Entry)) (i q : ℕ) (bs fs : List TurnFrame) (p : PlayerState) : Type 0 where
  pub others : (j : ℕ) (h : Head) → (j ≡ i → ⊥) → slice_get p.heads j ≡ Some h → IsAtEnd game q (shown logs q j) (shown logs q j) h
  pub head : Head
  pub there : slice_get p.heads i ≡ Some head
  pub at_end : IsAtEnd game q bs fs head
  pub accords : AreNoted (resolved_at game logs q) i (length logs) game.turns (moves_to game q fs head.stream) p.accords

module _ (game : Game) (logs : List (List Entry)) (i q : ℕ) where
  -- before the first entry
  pub heeding_none : (h : List Entry) (gs : List TurnFrame) (p : PlayerState) → slice_get logs i ≡ Some h → length p.heads ≡ length logs → IsOfPlayer game logs q p →
      IsHeeding game logs i q (frames_of i q h) (frames_of i q h ++ gs) p
  heeding_none h gs p there many is =
      let lt = slice_get_within logs i h there in
      let x = some_at p.heads i (omega arith) in
      let own : shown logs q i ≡ frames_of i q h = ap (λ (g : List Entry). frames_of i q g) (item_at logs i h [] there) in
      let end = subst (λ (fs : List TurnFrame). IsAtEnd game q fs fs x.0) own (is.heads i x.0 x.1) in
      record {
        others = λ j k ne at. is.heads j k at;
        head = x.0;
        there = x.1;
        at_end = end_longer game q (frames_of i q h) gs x.0 end;
        accords = λ t within. is.accords t within ∙ ap (λ (ms : List Move). Some (accord_of ms)) (same_given _ _ (range_with_len 0 (length logs)) (λ j has. given t x.0 own end j));
      }
    where
      given : (t : ℕ) (k : Head) → shown logs q i ≡ frames_of i q h → IsAtEnd game q (frames_of i q h) (frames_of i q h) k → (j : ℕ) →
          resolved_at game logs q t j ≡ mixed (resolved_at game logs q t) i (slice_get (moves_to game q (frames_of i q h ++ gs) k.stream) t) j
      given t k own end j = elim (cases_eq j i) [
        | inl same ↦
            ap (resolved_at game logs q t) same ∙ by_head game logs q t i (frames_of i q h) k own end
            ∙ ap (λ (x : Known). slice_get x.moves t) (same_known game q (frames_of i q h) gs k.stream end.read)
            ∙ sym (cond-true (j == i) _ (resolved_at game logs q t j) (eq-eqb j i same))
        | inr ne ↦ sym (cond-false (j == i) (slice_get (moves_to game q (frames_of i q h ++ gs) k.stream) t) (resolved_at game logs q t j) (ne_eqb j i ne))
      ]

  -- one frame more was heeded
  pub heeding_met : (bs fs behind : List TurnFrame) (f : TurnFrame) (index : IndexState) (p r : PlayerState) → i < length logs → fs ≡ bs ++ f ∷ behind → Shows game index i q fs →
      Heeds game index q i f p r → IsHeeding game logs i q bs fs p → IsHeeding game logs i q (bs ++ f ∷ []) fs r
  heeding_met bs fs behind f index p r lt parts shows heeds was = go (heeds bs fs behind was.head shows parts was.there was.at_end)
    where
      go : Heeded game q i bs fs f p r was.head → IsHeeding game logs i q (bs ++ f ∷ []) fs r
      go w =
          let few = (known_to_orderly game q fs (next_of w.head.stream)).turns in
          let grown = ap length w.on.grown in
          let more = length-append (moves_to game q fs was.head.stream) w.on.moves in
          let read = ap (λ (s : Stream). s.resolved) was.at_end.read in
          record {
            others = λ j h ne at. was.others j h ne (sym (get_set_other p.heads i j w.head ne) ∙ ap (λ (hs : List Head). slice_get hs j) (sym w.heads) ∙ at);
            head = w.head;
            there = ap (λ (hs : List Head). slice_get hs i) w.heads ∙ get_set p.heads i was.head w.head was.there;
            at_end = w.at_end;
            accords =
                subst (λ (ms : List Move). AreNoted (resolved_at game logs q) i (length logs) game.turns ms r.accords) (sym w.on.grown)
                (subst (λ (all : List Accord). AreNoted (resolved_at game logs q) i (length logs) game.turns (moves_to game q fs was.head.stream ++ w.on.moves) all)
                (ap (λ n. noted_from p.accords n w.on.moves) (sym read) ∙ sym w.on.noted)
                (note_all (resolved_at game logs q) i (length logs) game.turns lt w.on.moves (moves_to game q fs was.head.stream) p.accords (omega arith) was.accords));
          }

  -- behind the last entry
  pub heeding_all : (g : List Entry) (p : PlayerState) → i < length logs → IsHeeding game logs i q (frames_of i q g) (frames_of i q g) p → IsOfPlayer game (set logs i g) q p
  heeding_all g p lt was = record {
    heads = λ j h at. elim (cases_eq j i) [
      | inl same ↦
          let one : was.head ≡ h = same_Some was.head h (sym was.there ∙ ap (slice_get p.heads) (sym same) ∙ at) in
          subst (λ (n : ℕ). IsAtEnd game q (shown (set logs i g) q n) (shown (set logs i g) q n) h) (sym same)
          (subst (λ (fs : List TurnFrame). IsAtEnd game q fs fs h) (sym own) (subst (λ (k : Head). IsAtEnd game q (frames_of i q g) (frames_of i q g) k) one was.at_end))
      | inr ne ↦ subst (λ (x : List Entry). IsAtEnd game q (frames_of j q x) (frames_of j q x) h) (sym (item_other logs i j g [] ne)) (was.others j h ne at)
    ];
    accords = λ t within. was.accords t within ∙ ap (λ (ms : List Move). Some (accord_of ms))
        (same_given _ _ (range_with_len 0 (length logs)) (λ j has. given t j) ∙ ap (λ n. filter_map (resolved_at game (set logs i g) q t) (range_with_len 0 n)) (sym (length-set logs i g)));
  }
    where
      at_last : slice_get (set logs i g) i ≡ Some g
      at_last = let x = some_at logs i lt in get_set logs i x.0 g x.1

      own : shown (set logs i g) q i ≡ frames_of i q g
      own = ap (λ (x : List Entry). frames_of i q x) (item_at (set logs i g) i g [] at_last)

      given : (t j : ℕ) → mixed (resolved_at game logs q t) i (slice_get (moves_to game q (frames_of i q g) was.head.stream) t) j ≡ resolved_at game (set logs i g) q t j
      given t j = elim (cases_eq j i) [
        | inl same ↦
            cond-true (j == i) _ (resolved_at game logs q t j) (eq-eqb j i same) ∙ sym (by_head game (set logs i g) q t i (frames_of i q g) was.head own was.at_end)
            ∙ ap (resolved_at game (set logs i g) q t) (sym same)
        | inr ne ↦
            cond-false (j == i) _ (resolved_at game logs q t j) (ne_eqb j i ne)
            ∙ ap (λ (x : List Entry). slice_get (known game j x q).moves t) (sym (item_other logs i j g [] ne))
      ]

  -- the index of the player's frames shows what the log has
  shows_of : (got made_index : IndexState) (g : List Entry) → Hold game got made_index i g → Shows game (index_of got made_index i q) i q (frames_of i q g)
  shows_of got made_index g hold = elim (cases_eq q i) [
    | inl same ↦
        subst (λ (n : ℕ). Shows game (index_of got made_index i n) i n (frames_of i n g)) (sym same)
        (subst (λ (x : IndexState). Shows game x i i (frames_of i i g)) (sym (cond-true (i == i) made_index got (eq-eqb i i refl)))
        (subst (λ (fs : List TurnFrame). Shows game made_index i i fs) (sym (cond-true (i == i) (made g) (got_of i g) (eq-eqb i i refl))) hold.of_own))
    | inr ne ↦
        subst (λ (x : IndexState). Shows game x i q (frames_of i q g)) (sym (cond-false (q == i) made_index got (ne_eqb q i ne)))
        (subst (λ (fs : List TurnFrame). Shows game got i q fs) (sym (cond-false (q == i) (made g) (got_of q g) (ne_eqb q i ne))) (hold.of_others q ne))
  ]

  -- one entry more was heeded
  pub heeding_more : (got made_index : IndexState) (g rest : List Entry) (e : Entry) (old new : List PlayerState) (p r : PlayerState) → i < length logs → Hold game got made_index i ((g ++ e ∷ []) ++ rest) →
      HeedsEntry game got made_index i e old new → slice_get old q ≡ Some p → slice_get new q ≡ Some r →
      IsHeeding game logs i q (frames_of i q g) (frames_of i q ((g ++ e ∷ []) ++ rest)) p → IsHeeding game logs i q (frames_of i q (g ++ e ∷ [])) (frames_of i q ((g ++ e ∷ []) ++ rest)) r
  heeding_more got made_index g rest e old new p r lt hold heeds was is here = elim (one_frame i q e) [
    | inl none ↦
        let same : p ≡ r = same_Some p r (sym was ∙ sym (heeds.others q none) ∙ is) in
        let front : frames_of i q g ≡ frames_of i q (g ++ e ∷ []) =
        sym (frames_of_append i q g (e ∷ []) ∙ ap (λ (fs : List TurnFrame). frames_of i q g ++ fs) none ∙ append_nil (frames_of i q g)) in
        subst (λ (bs : List TurnFrame). IsHeeding game logs i q bs (frames_of i q ((g ++ e ∷ []) ++ rest)) r) front
        (subst (λ (s : PlayerState). IsHeeding game logs i q (frames_of i q g) (frames_of i q ((g ++ e ∷ []) ++ rest)) s) same here)
    | inr some ↦
        let front : frames_of i q (g ++ e ∷ []) ≡ frames_of i q g ++ some.0 ∷ [] =
        frames_of_append i q g (e ∷ []) ∙ ap (λ (fs : List TurnFrame). frames_of i q g ++ fs) some.1 in
        let parts : frames_of i q ((g ++ e ∷ []) ++ rest) ≡ frames_of i q g ++ some.0 ∷ frames_of i q rest =
        frames_of_append i q (g ++ e ∷ []) rest ∙ ap (λ (fs : List TurnFrame). fs ++ frames_of i q rest) front ∙ append_assoc (frames_of i q g) (some.0 ∷ []) (frames_of i q rest) in
        subst (λ (bs : List TurnFrame). IsHeeding game logs i q bs (frames_of i q ((g ++ e ∷ []) ++ rest)) r) (sym front)
        (heeding_met (frames_of i q g) (frames_of i q ((g ++ e ∷ []) ++ rest)) (frames_of i q rest) some.0 (index_of got made_index i q) p r lt parts
        (shows_of got made_index ((g ++ e ∷ []) ++ rest) hold) (heeds.shown q some.0 p r some.1 was is) here)
  ]

-- all players while so many of the entries at the end of one log are heeded
abbrev pub AreHeeding : Game → List (List Entry) → ℕ → List Entry → List Entry → List PlayerState → Type 0
AreHeeding game logs i g all ps = (q : ℕ) (p : PlayerState) → slice_get ps q ≡ Some p → IsHeeding game logs i q (frames_of i q g) (frames_of i q all) p

module _ (game : Game) (logs : List (List Entry)) (i : ℕ) where
  -- before the first entry
  pub all_none : (h es : List Entry) (a : AgreedState) → AreSound game a.players → slice_get logs i ≡ Some h → IsOf game logs a → AreHeeding game logs i (h ++ take 0 es) (h ++ es) a.players
  all_none h es a sound there is q p at =
      let many = is.many in
      let heads = (sound.each q p at).heads in
      subst (λ (g : List Entry). IsHeeding game logs i q (frames_of i q g) (frames_of i q (h ++ es)) p) (sym (append_nil h))
      (subst (λ (fs : List TurnFrame). IsHeeding game logs i q (frames_of i q h) fs p) (sym (frames_of_append i q h es))
      (heeding_none game logs i q h (frames_of i q es) p there (omega arith) (is.each q p at)))

  -- one entry more was heeded
  pub all_more : (got made_index : IndexState) (h es : List Entry) (k : ℕ) (e : Entry) (old new : List PlayerState) (g : Game) → slice_get logs i ≡ Some h → slice_get es k ≡ Some e →
      Hold game got made_index i (h ++ es) → g ≡ game → HeedsEntry g got made_index i e old new → AreHeeding game logs i (h ++ take k es) (h ++ es) old → AreHeeding game logs i (h ++ take (k + 1) es) (h ++ es) new
  all_more got made_index h es k e old new g there at hold same entered was q r is =
      let heeds = subst (λ (x : Game). HeedsEntry x got made_index i e old new) same entered in
      let within = slice_get_within new q r is in
      let many = heeds.many in
      let p = some_at old q (omega arith) in
      let front : h ++ take (k + 1) es ≡ (h ++ take k es) ++ e ∷ [] = ap (λ (xs : List Entry). h ++ xs) (take_more k es e at) ∙ sym (append_assoc h (take k es) (e ∷ [])) in
      let parts : h ++ es ≡ ((h ++ take k es) ++ e ∷ []) ++ drop (k + 1) es =
      ap (λ (xs : List Entry). h ++ xs) (sym (take-append-drop (k + 1) es)) ∙ sym (append_assoc h (take (k + 1) es) (drop (k + 1) es)) ∙ ap (λ (xs : List Entry). xs ++ drop (k + 1) es) front in
      subst (λ (g : List Entry). IsHeeding game logs i q (frames_of i q g) (frames_of i q (h ++ es)) r) (sym front)
      (subst (λ (g : List Entry). IsHeeding game logs i q (frames_of i q ((h ++ take k es) ++ e ∷ [])) (frames_of i q g) r) (sym parts)
      (heeding_more game logs i q got made_index (h ++ take k es) (drop (k + 1) es) e old new p.0 r (slice_get_within logs i h there) (subst (Hold game got made_index i) parts hold) heeds p.1 is
      (subst (λ (g : List Entry). IsHeeding game logs i q (frames_of i q (h ++ take k es)) (frames_of i q g) p.0) parts (was q p.0 p.1))))

  -- behind the last entry
  pub all_heeded : (h es : List Entry) (k : ℕ) (a b : AgreedState) → length es ≤ k → slice_get logs i ≡ Some h → b.game ≡ game → IsOf game logs a → AreHeeding game logs i (h ++ take k es) (h ++ es) b.players →
      IsOf game (set logs i (h ++ es)) b
  all_heeded h es k a b le there same is was = record {
    session = same;
    many = length-set logs i (h ++ es) ∙ is.many;
    each = λ q p at. heeding_all game logs i q (h ++ es) p (slice_get_within logs i h there)
        (subst (λ (g : List Entry). IsHeeding game logs i q (frames_of i q g) (frames_of i q (h ++ es)) p) (ap (λ (xs : List Entry). h ++ xs) (take_all k es le)) (was q p at));
  }
