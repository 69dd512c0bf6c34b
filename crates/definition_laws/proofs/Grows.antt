-- What is known of a player only grows as its frames come.
use Rattle.std.proofs.Common.{Bool, List, None, Some, [], ap, append_assoc, arith, false, inl, inr, length, refl, subst, suc, sym, true, zero, ℕ, ◌*◌, ◌++◌, ◌+◌, ◌∙◌, ◌∷◌, ◌≡◌, ◌⊎◌}
use Rattle.std.specs.Prelude.{Option, if◌then◌else◌, min, nat_lt, slice_get, ◌==◌}
use Rattle.plain_lemmas.proofs.Tests.{of_chosen}
use Rattle.definitions.specs.Logs.{frames_of, got_in, got_of, made, made_in}
use Rattle.definitions.specs.declared.openings.Digest.{Digest}
use Rattle.definitions.specs.declared.frames.TurnFrame.TheVariants.{Commit, Reveal}
use Rattle.definitions.specs.Held.{Known, first_commit, first_opening, known, known_to, next_known, opened, with_commit, with_move}
use Rattle.definitions.specs.declared.frames.TurnFrame.{TurnFrame}
use Rattle.definitions.specs.declared.world.Move.{Move}
use Rattle.definitions.specs.World.{Game}
use Rattle.definitions.specs.declared.logs.Entry.{Entry}
use Rattle.definition_laws.proofs.Listing.{append_nil, flat_map_append}

pub first_commit_more : (fs gs : List TurnFrame) (t : ℕ) (d : Digest) → first_commit fs t ≡ Some d → first_commit (fs ++ gs) t ≡ Some d
first_commit_more [] gs t d h = cc
first_commit_more (Commit p u e ∷ fs) gs t d h = let ih = first_commit_more fs gs t d in grind arith
first_commit_more (Reveal p u m n ∷ fs) gs t d h = first_commit_more fs gs t d h

pub first_opening_more : (game : Game) (q : ℕ) (before : List Move) (d : Digest) (fs gs : List TurnFrame) (t : ℕ) (m : Move) →
    first_opening game q before d fs t ≡ Some m → first_opening game q before d (fs ++ gs) t ≡ Some m
first_opening_more game q before d [] gs t m h = cc
first_opening_more game q before d (Commit p u e ∷ fs) gs t m h = first_opening_more game q before d fs gs t m h
first_opening_more game q before d (Reveal p u k n ∷ fs) gs t m h =
    let ih = first_opening_more game q before d fs gs t m in grind arith

opened_more : (game : Game) (q : ℕ) (before : List Move) (fs gs : List TurnFrame) (t : ℕ) (o : Option Digest) (m : Move) →
    opened game q before fs t o ≡ Some m → opened game q before (fs ++ gs) t o ≡ Some m
opened_more game q before fs gs t None m h = cc
opened_more game q before fs gs t (Some d) m h = first_opening_more game q before d fs gs t m h

-- k is the beginning of l
pub record IsBeginning (k l : Known) : Type 0 where
  pub digests_after : List Digest
  pub moves_after : List Move
  pub digests_are : l.digests ≡ k.digests ++ digests_after
  pub moves_are : l.moves ≡ k.moves ++ moves_after

pub IsBeginning_refl : (k : Known) → IsBeginning k k
IsBeginning_refl k = record { digests_after = []; moves_after = []; digests_are = sym (append_nil k.digests); moves_are = sym (append_nil k.moves) }

pub IsBeginning_trans : (k l m : Known) → IsBeginning k l → IsBeginning l m → IsBeginning k m
IsBeginning_trans k l m a b = record {
  digests_after = a.digests_after ++ b.digests_after;
  moves_after = a.moves_after ++ b.moves_after;
  digests_are = b.digests_are ∙ ap (λ (xs : List Digest). xs ++ b.digests_after) a.digests_are ∙ append_assoc k.digests a.digests_after b.digests_after;
  moves_are = b.moves_are ∙ ap (λ (xs : List Move). xs ++ b.moves_after) a.moves_are ∙ append_assoc k.moves a.moves_after b.moves_after;
}

commit_grows : (k : Known) (o : Option Digest) → IsBeginning k (with_commit k o)
commit_grows k None = IsBeginning_refl k
commit_grows k (Some d) = record { digests_after = d ∷ []; moves_after = []; digests_are = refl; moves_are = sym (append_nil k.moves) }

move_grows : (k : Known) (o : Option Move) → IsBeginning k (with_move k o)
move_grows k None = IsBeginning_refl k
move_grows k (Some m) = record { digests_after = []; moves_after = m ∷ []; digests_are = sym (append_nil k.digests); moves_are = refl }

pub next_grows : (game : Game) (q : ℕ) (fs : List TurnFrame) (k : Known) → IsBeginning k (next_known game q fs k)
unfolding next_known
next_grows game q fs k =
    of_chosen (IsBeginning k) (nat_lt (length k.digests) (min (length k.moves + game.ahead) game.turns)) _ _ (commit_grows k _)
    (of_chosen (IsBeginning k) (nat_lt (length k.moves) game.turns) _ _ (move_grows k _) (IsBeginning_refl k))

-- with more frames the same comes next, or nothing came
commit_same : (k : Known) (o p : Option Digest) → ((d : Digest) → o ≡ Some d → p ≡ Some d) → (with_commit k o ≡ with_commit k p) ⊎ (with_commit k o ≡ k)
commit_same k None p h = inr refl
commit_same k (Some d) p h = inl (sym (ap (λ (o : Option Digest). with_commit k o) (h d refl)))

move_same : (k : Known) (o p : Option Move) → ((m : Move) → o ≡ Some m → p ≡ Some m) → (with_move k o ≡ with_move k p) ⊎ (with_move k o ≡ k)
move_same k None p h = inr refl
move_same k (Some d) p h = inl (sym (ap (λ (o : Option Move). with_move k o) (h d refl)))

choice_same : (k l m l' m' : Known) (b : Bool) → (l ≡ l') ⊎ (l ≡ k) → (m ≡ m') ⊎ (m ≡ k) →
    ((if b then l else m) ≡ (if b then l' else m')) ⊎ ((if b then l else m) ≡ k)
choice_same k l m l' m' true p q = p
choice_same k l m l' m' false p q = q

next_same : (game : Game) (q : ℕ) (fs gs : List TurnFrame) (k : Known) →
    (next_known game q fs k ≡ next_known game q (fs ++ gs) k) ⊎ (next_known game q fs k ≡ k)
unfolding next_known
next_same game q fs gs k =
    choice_same k _ _ _ _ (nat_lt (length k.digests) (min (length k.moves + game.ahead) game.turns))
    (commit_same k _ _ (λ d h. first_commit_more fs gs (length k.digests) d h))
    (choice_same k _ _ _ _ (nat_lt (length k.moves) game.turns)
    (move_same k _ _ (λ m h. opened_more game q k.moves fs gs (length k.moves) (slice_get k.digests (length k.moves)) m h))
    (inl refl))

-- the same is known by more frames, or no more is known by these and more by those
abbrev pub Ahead : Game → ℕ → List TurnFrame → Known → Known → Type 0
Ahead game q fs k l = (k ≡ l) ⊎ ((next_known game q fs k ≡ k) × IsBeginning k l)

ahead_next : (game : Game) (q : ℕ) (fs gs : List TurnFrame) (k l : Known) → Ahead game q fs k l → Ahead game q fs (next_known game q fs k) (next_known game q (fs ++ gs) l)
ahead_next game q fs gs k l (inl e) =
    subst (λ (m : Known). Ahead game q fs (next_known game q fs k) (next_known game q (fs ++ gs) m)) e (go (next_same game q fs gs k))
  where
    go : (next_known game q fs k ≡ next_known game q (fs ++ gs) k) ⊎ (next_known game q fs k ≡ k) → Ahead game q fs (next_known game q fs k) (next_known game q (fs ++ gs) k)
    go (inl same) = inl same
    go (inr stuck) = inr (ap (next_known game q fs) stuck, subst (λ (m : Known). IsBeginning m (next_known game q (fs ++ gs) k)) (sym stuck) (next_grows game q (fs ++ gs) k))
ahead_next game q fs gs k l (inr (stuck, less)) =
    inr (
      ap (next_known game q fs) stuck,
      subst (λ (m : Known). IsBeginning m (next_known game q (fs ++ gs) l)) (sym stuck) (IsBeginning_trans k l _ less (next_grows game q (fs ++ gs) l)),
    )

pub known_ahead : (game : Game) (q : ℕ) (fs gs : List TurnFrame) (n : ℕ) → Ahead game q fs (known_to game q fs n) (known_to game q (fs ++ gs) n)
unfolding known_to
known_ahead game q fs gs zero = inl refl
known_ahead game q fs gs (suc n) = ahead_next game q fs gs _ _ (known_ahead game q fs gs n)

-- what some frames show is the beginning of what more frames show
pub known_to_grows : (game : Game) (q : ℕ) (fs gs : List TurnFrame) (n : ℕ) → IsBeginning (known_to game q fs n) (known_to game q (fs ++ gs) n)
known_to_grows game q fs gs n = go (known_ahead game q fs gs n)
  where
    go : Ahead game q fs (known_to game q fs n) (known_to game q (fs ++ gs) n) → IsBeginning (known_to game q fs n) (known_to game q (fs ++ gs) n)
    go (inl e) = subst (λ (m : Known). IsBeginning (known_to game q fs n) m) e (IsBeginning_refl _)
    go (inr p) = p.1

pub frames_of_append : (me q : ℕ) (g h : List Entry) → frames_of me q (g ++ h) ≡ frames_of me q g ++ frames_of me q h
unfolding made got_of
frames_of_append me q g h = go (q == me)
  where
    go : (b : Bool) → (if b then made (g ++ h) else got_of q (g ++ h)) ≡ (if b then made g else got_of q g) ++ (if b then made h else got_of q h)
    go true = flat_map_append made_in g h
    go false = flat_map_append (got_in q) g h

-- what a log shows of a player is the beginning of what a longer log shows
pub known_grows : (game : Game) (me q : ℕ) (g h : List Entry) → IsBeginning (known game me g q) (known game me (g ++ h) q)
unfolding known
known_grows game me q g h =
    subst (λ (fs : List TurnFrame). IsBeginning (known_to game q (frames_of me q g) (2 * game.turns)) (known_to game q fs (2 * game.turns)))
    (sym (frames_of_append me q g h))
    (known_to_grows game q (frames_of me q g) (frames_of me q h) (2 * game.turns))
