-- Entered: all players after one entry, and the frames that an entry has.
use Rattle.std.proofs.Common.{Bool, List, Some, [], ap, false, inl, inr, length, refl, set, subst, sym, true, ℕ, ◌++◌, ◌∙◌, ◌∷◌, ◌≡◌, ◌≤◌, ◌⊎◌}
use Rattle.std.specs.Prelude.{if◌then◌else◌, slice_get, ◌==◌}
use Rattle.std.proofs.lemmas.Bool.{cases_eq, cond-false, cond-true, eq-eqb, ne_eqb}
use Rattle.std.proofs.lemmas.List.{length-set}
use Rattle.std.proofs.lemmas.Option.{none-some, same_Some, slice_get_past}
use Rattle.definitions.specs.declared.frames.TurnFrame.{TurnFrame}
use Rattle.definitions.specs.declared.logs.Entry.{Entry}
use Rattle.definitions.specs.declared.logs.Entry.TheVariants.{Chose, Got, Made}
use Rattle.definitions.specs.declared.openings.Nonce.{Nonce}
use Rattle.definitions.specs.declared.world.Move.{Move}
use Rattle.definitions.specs.Logs.{frames_of, got_of, made}
use Rattle.definitions.specs.World.{Game}
use Rattle.frame_index.specs.Frames.{IndexState}
use Rattle.frame_index.proofs.Headed.{after_set}
use Rattle.agreed_turns.specs.States.{AgreedState, AreSound, Heeds, HeedsEntry, HeedsFrame, IsSound, PlayerState, index_of}
use Rattle.agreed_turns.proofs.Noted.{get_set, get_set_other}

-- the frames of a player's stream that one entry has, by whether the log is the player's own
frames_by : ℕ → Entry → Bool → List TurnFrame
frames_by q e b = if b then made (e ∷ []) else got_of q (e ∷ [])

none_or : (f : TurnFrame) → [] ≡ f ∷ [] → ⊥
none_or f e = absurd (cc)

one_or : (f : TurnFrame) → f ∷ [] ≡ [] → ⊥
one_or f e = absurd (cc)

same_one : (f g : TurnFrame) → f ∷ [] ≡ g ∷ [] → f ≡ g
same_one f g e = cc

pub chose_frames : (i q t : ℕ) (m : Move) (n : Nonce) → frames_of i q (Chose t m n ∷ []) ≡ []
unfolding made got_of
chose_frames i q t m n = go (q == i)
  where
    go : (b : Bool) → (if b then made (Chose t m n ∷ []) else got_of q (Chose t m n ∷ [])) ≡ []
    go true = refl
    go false = refl

made_own : (i q : ℕ) (f : TurnFrame) → q ≡ i → frames_of i q (Made f ∷ []) ≡ f ∷ []
unfolding made got_of
made_own i q f e = cond-true (q == i) (made (Made f ∷ [])) (got_of q (Made f ∷ [])) (eq-eqb q i e)

made_other : (i q : ℕ) (f : TurnFrame) → (q ≡ i → ⊥) → frames_of i q (Made f ∷ []) ≡ []
unfolding made got_of
made_other i q f ne = cond-false (q == i) (made (Made f ∷ [])) (got_of q (Made f ∷ [])) (ne_eqb q i ne)

got_own : (i q p : ℕ) (f : TurnFrame) → q ≡ i → frames_of i q (Got p f ∷ []) ≡ []
unfolding made got_of
got_own i q p f e = cond-true (q == i) (made (Got p f ∷ [])) (got_of q (Got p f ∷ [])) (eq-eqb q i e)

got_it : (i q p : ℕ) (f : TurnFrame) → (q ≡ i → ⊥) → p ≡ q → frames_of i q (Got p f ∷ []) ≡ f ∷ []
unfolding made got_of
got_it i q p f ne e =
    cond-false (q == i) (made (Got p f ∷ [])) (got_of q (Got p f ∷ [])) (ne_eqb q i ne)
    ∙ ap (λ (fs : List TurnFrame). fs ++ []) (cond-true (p == q) (f ∷ []) [] (eq-eqb p q e))

got_other : (i q p : ℕ) (f : TurnFrame) → (q ≡ i → ⊥) → (p ≡ q → ⊥) → frames_of i q (Got p f ∷ []) ≡ []
unfolding made got_of
got_other i q p f ne other =
    cond-false (q == i) (made (Got p f ∷ [])) (got_of q (Got p f ∷ [])) (ne_eqb q i ne)
    ∙ ap (λ (fs : List TurnFrame). fs ++ []) (cond-false (p == q) (f ∷ []) [] (ne_eqb p q other))

module _ (game : Game) (got_index made_index : IndexState) (i : ℕ) (old new : List PlayerState) where
  -- where an entry has no frame of any player, all stay
  pub enters_none : (e : Entry) → ((q : ℕ) → frames_of i q (e ∷ []) ≡ []) → new ≡ old → HeedsEntry game got_index made_index i e old new
  enters_none e none same = record {
    many = ap length same;
    shown = λ q f p r some there here. absurd (none_or f (sym (none q) ∙ some));
    others = λ q e. ap (λ (ps : List PlayerState). slice_get ps q) same;
  }

  pub enters_chose : (t : ℕ) (m : Move) (n : Nonce) → new ≡ old → HeedsEntry game got_index made_index i (Chose t m n) old new
  enters_chose t m n same = enters_none (Chose t m n) (λ q. chose_frames i q t m n) same

  pub enters_back : (p : ℕ) (f : TurnFrame) → p ≡ i → new ≡ old → HeedsEntry game got_index made_index i (Got p f) old new
  enters_back p f e same = enters_none (Got p f) (λ q. elim (cases_eq q i) [ inl own ↦ got_own i q p f own | inr ne ↦ got_other i q p f ne (λ same. ne (sym same ∙ e)) ]) same

  -- the frame is heeded of its player
  by_frame : (index : IndexState) (p : ℕ) (f : TurnFrame) (e : Entry) → index_of got_index made_index i p ≡ index → frames_of i p (e ∷ []) ≡ f ∷ [] →
      ((q : ℕ) → (q ≡ p → ⊥) → frames_of i q (e ∷ []) ≡ []) → HeedsFrame game index p i f old new → HeedsEntry game got_index made_index i e old new
  by_frame index p f e is has none heeds = record {
    many = heeds.many;
    shown = λ q g a b some there here. elim (cases_eq q p) [
      | inl same ↦
          subst (λ (k : ℕ). Heeds game (index_of got_index made_index i k) k i g a b) (sym same)
          (subst (λ (x : IndexState). Heeds game x p i g a b) (sym is)
          (subst (λ (g : TurnFrame). Heeds game index p i g a b) (same_one f g (sym has ∙ ap (λ k. frames_of i k (e ∷ [])) (sym same) ∙ some))
          (heeds.own a b (ap (slice_get old) (sym same) ∙ there) (ap (slice_get new) (sym same) ∙ here))))
      | inr ne ↦ absurd (none_or g (sym (none q ne) ∙ some))
    ];
    others = λ q empty. elim (cases_eq q p) [
      | inl same ↦ absurd (one_or f (sym has ∙ ap (λ k. frames_of i k (e ∷ [])) (sym same) ∙ empty))
      | inr ne ↦ heeds.others q ne
    ];
  }

  pub enters_made : (f : TurnFrame) → HeedsFrame game made_index i i f old new → HeedsEntry game got_index made_index i (Made f) old new
  enters_made f heeds =
      by_frame made_index i f (Made f) (cond-true (i == i) made_index got_index (eq-eqb i i refl)) (made_own i i f refl) (λ q ne. made_other i q f ne) heeds

  pub enters_got : (p : ℕ) (f : TurnFrame) → (p ≡ i → ⊥) → HeedsFrame game got_index p i f old new → HeedsEntry game got_index made_index i (Got p f) old new
  enters_got p f other heeds =
      by_frame got_index p f (Got p f) (cond-false (p == i) made_index got_index (ne_eqb p i other)) (got_it i p p f other refl)
      (λ q ne. elim (cases_eq q i) [ inl own ↦ got_own i q p f own | inr apart ↦ got_other i q p f apart (λ same. ne (sym same)) ]) heeds

-- where the player's turns heed a frame, the others stay as they are
pub frame_heeded : (game : Game) (index : IndexState) (player n log : ℕ) (f : TurnFrame) (a : AgreedState) (xs : List PlayerState) (p r : PlayerState) → record { game = game; players = xs } ≡ a →
    n ≡ player → slice_get xs player ≡ Some p → Heeds game index player log f p r → HeedsFrame a.game index player log f a.players (set xs n r)
frame_heeded game index player n log f a xs p r view place there heeds =
    subst (λ (s : AgreedState). HeedsFrame s.game index player log f s.players (set xs n r)) view
    (subst (λ (m : ℕ). HeedsFrame game index player log f xs (set xs m r)) (sym place) (record {
      many = length-set xs player r;
      others = λ q ne. get_set_other xs player q r ne;
      own = λ x y was is.
          subst (λ (s : PlayerState). Heeds game index player log f s y) (same_Some p x (sym there ∙ was))
          (subst (λ (s : PlayerState). Heeds game index player log f p s) (same_Some r y (sym (get_set xs player p r there) ∙ is)) heeds);
    }))

-- a player whom the session doesn't have
pub frame_beyond : (game : Game) (index : IndexState) (player log : ℕ) (f : TurnFrame) (a : AgreedState) (xs : List PlayerState) → record { game = game; players = xs } ≡ a →
    length xs ≤ player → HeedsFrame a.game index player log f a.players a.players
frame_beyond game index player log f a xs view le =
    subst (λ (s : AgreedState). HeedsFrame s.game index player log f s.players s.players) view (record {
      many = refl;
      others = λ q ne. refl;
      own = λ x y was is. absurd (none-some x (sym (slice_get_past xs player le) ∙ was));
    })

pub sound_player : (game : Game) (xs : List PlayerState) (n : ℕ) (r : PlayerState) → AreSound game xs → IsSound game r → AreSound game (set xs n r)
sound_player game xs n r all one = record {
  many = length-set xs n r ∙ all.many;
  each = λ q p there. go q p (after_set xs n q r p there);
}
  where
    go : (q : ℕ) (p : PlayerState) → ((q ≡ n) × (r ≡ p)) ⊎ ((q ≡ n → ⊥) × (slice_get xs q ≡ Some p)) → IsSound game p
    go q p (inl a) = subst (λ (s : PlayerState). IsSound game s) a.1 one
    go q p (inr b) = all.each q p b.1

-- an entry has one frame of a player's stream, or none
pub one_frame : (i q : ℕ) (e : Entry) → (frames_of i q (e ∷ []) ≡ []) ⊎ ((f : TurnFrame) × (frames_of i q (e ∷ []) ≡ f ∷ []))
one_frame i q (Chose t m n) = inl (chose_frames i q t m n)
one_frame i q (Made f) = elim (cases_eq q i) [ inl own ↦ inr (f, made_own i q f own) | inr ne ↦ inl (made_other i q f ne) ]
one_frame i q (Got p f) = elim (cases_eq q i) [
  | inl own ↦ inl (got_own i q p f own)
  | inr ne ↦ elim (cases_eq p q) [ inl same ↦ inr (f, got_it i q p f ne same) | inr other ↦ inl (got_other i q p f ne other) ]
]
