-- Empty: a window of which no frame came.
use Rattle.std.proofs.Common.{◌≡◌, ℕ, zero, suc, ◌+◌, ◌*◌, ◌<◌, ◌≤◌, List, [], ◌++◌, length, refl, false, sym, ◌∙◌, ap, arith, Option, Some, None}
use Rattle.std.specs.List.{range_with_len}
use Rattle.std.specs.Option.{option_or}
use Rattle.std.proofs.Math.ListN.{replicate}
use Rattle.std.proofs.lemmas.List.{length-replicate}
use Rattle.plain_lemmas.proofs.Lists.{get_or-repeated}
use Rattle.definitions.specs.declared.world.Track.{Track}
use Rattle.definitions.specs.Lists.{first_of}
use Rattle.definitions.specs.World.{Game, players_of}
use Rattle.definitions.specs.Moves.{start_track, track_after}
use Rattle.definitions.specs.Findings.{first_pair}
use Rattle.definitions.specs.Held.{Known, known_to}
use Rattle.definition_laws.proofs.ForPeers.{known_of_none}
use Rattle.peer_window.specs.declared.received.Received.{Received}
use Rattle.peer_window.specs.Clashes.{clash_among, clash_in, first_clash}
use Rattle.peer_window.specs.Slots.{AreSlots, digests_to, frames_in, in_order, moves_to, shown}
use Rattle.peer_window.specs.Windows.{IsWindow, seen_of}

abbrev no_slots : ℕ → List (Option Received)
no_slots n = replicate n None

none_in_order : (n : ℕ) → in_order (no_slots n) ≡ []
none_in_order zero = refl
none_in_order (suc n) = none_in_order n

shows_nothing : (ss : List (Option Received)) → shown ss 0 0 ≡ record { digests = []; moves = [] }
unfolding digests_to moves_to
shows_nothing ss = refl

no_clash_in : (game : Game) (q t : ℕ) → clash_in game q [] t ≡ None
unfolding clash_in clash_among first_pair
no_clash_in game q t = refl

nowhere : {Y : Type 0} (f : ℕ → Option Y) (a n : ℕ) → ((t : ℕ) → f t ≡ None) → first_of f (range_with_len a n) ≡ None
nowhere f a zero h = refl
nowhere f a (suc n) h = ap (λ o. option_or o (first_of f (range_with_len (a + 1) n))) (h a) ∙ nowhere f (a + 1) n h

pub none_clash : (game : Game) (q : ℕ) → first_clash game q [] ≡ None
unfolding first_clash
none_clash game q = nowhere (clash_in game q []) 0 game.turns (no_clash_in game q)

empty_slots : (q n : ℕ) → n ≤ 8192 → AreSlots q (no_slots n) 0 0
empty_slots q n few =
    let len = length-replicate {A = Option Received} n None in
    record {
      own = λ p r e. absurd (let none : None ≡ Some r = sym (get_or-repeated {A = Option Received} n p None) ∙ e in cc);
      committed = λ t lt. absurd (omega arith);
      revealed = λ t lt. absurd (omega arith);
      before = omega arith;
      within = omega arith;
      few = omega arith;
    }

pub empty_frames : (n : ℕ) (ss : List (Option Received)) → ss ≡ replicate n None → in_order ss ++ [] ≡ []
empty_frames n ss e = ap (λ (xs : List (Option Received)). in_order xs ++ []) e ∙ ap (λ (xs : List Received). xs ++ []) (none_in_order n)

pub empty_window : (game : Game) (q n : ℕ) (ss : List (Option Received)) (track : Track) → q < players_of game → n ≡ 2 * game.turns → ss ≡ replicate n None → track ≡ start_track game q →
    IsWindow game (seen_of q ss None false (record { commits = 0; resolved = 0; track = track }))
empty_window game q n ss track lt len e at =
    let frames = empty_frames n ss e in
    record {
      player = lt;
      places = ap length e ∙ length-replicate {A = Option Received} n None ∙ len;
      known = shows_nothing ss ∙ sym (known_of_none game q (2 * game.turns)) ∙ ap (λ (rs : List Received). known_to game q (frames_in rs) (2 * game.turns)) (sym frames);
      track = at ∙ ap (λ (k : Known). track_after game q k.moves) (sym (shows_nothing ss));
      clean = λ h. ap (first_clash game q) frames ∙ none_clash game q;
    }
