-- RootHolds: the law of `root`: each status has its cause, what is good comes to its end, and what is behind the line.
use Rattle.std.proofs.Common.{◌≡◌, ◌≤◌, inl, inr, ℕ, Bool, true, false, List, [], ◌∷◌, refl, ap, sym, subst, arith, nat_lt, if◌then◌else◌}
use Rattle.std.specs.Prelude.{Result, Ok, Err}
use Rattle.std.proofs.lemmas.Bool.{ltb-true}
use Rattle.definitions.specs.World.{Game, players_of}
use Rattle.definitions.specs.declared.limits.TheConstants.{GREATEST_PLAYER}
use Rattle.grid_world.specs.declared.fault.SessionFault.{SessionFault}
use Rattle.grid_world.specs.declared.fault.SessionFault.TheVariants.{At, Memory}
use Rattle.grid_world.specs.Reading.{game_at}
use Rattle.grid_world.specs.Sessions.{IsSession}
use Rattle.grid_world.proofs.Found.{game_found}
use Rattle.line_io.specs.Files.{Contents, behind_first, content}
use Rattle.line_io.specs.Inputs.{Input}
use Rattle.line_io.proofs.Unread.{none_at}
use Rattle.run_frame.specs.Law.{HasCause}
use Rattle.run_frame.specs.Sessions.{ended_by, front_of, with_player}
use Rattle.run_frame.specs.declared.statuses.Status.{Status}
use Rattle.run_frame.specs.declared.statuses.Status.TheVariants.{InputFault, NoMemory, OutputFault, Usage}
use Rattle.run_frame.proofs.Working.{Holds}
use Rattle.key_commands.specs.Opened.{Keyed, after_session, keyed_for, with_seed}
use Rattle.key_commands.specs.Root.{TellsRoot, root_answer}
use Rattle.key_commands.specs.RootLaw.{root_law}
use Rattle.key_commands.specs.Words.{Keying}
use Rattle.key_commands.proofs.Roots.{root_told, seals_valid}

caused_so : (k : Keying) (contents : Contents) (input : Input) (r : Result Keyed Status) → keyed_for k contents ≡ r → HasCause (root_law k) contents input (root_answer k.player r).status
caused_so k contents input (Ok keys) e = inr ((keys, e), tt)
caused_so k contents input (Err NoMemory) e = tt
caused_so k contents input (Err InputFault) e = tt
caused_so k contents input (Err OutputFault) e = tt
caused_so k contents input (Err status) e = inl e

-- a player of the session that keys come from has a number that a line may have
with_seed_game : (game : Game) (seed : Result (List ℕ) Status) (keys : Keyed) → with_seed game seed ≡ Ok keys → keys.game ≡ game
with_seed_game game (Ok seed) keys e = cc
with_seed_game game (Err status) keys e = absurd (let never : Err status ≡ Ok keys = e in cc)

game_seated : (player : ℕ) (r : Result Game SessionFault) (text : List ℕ) (contents : Contents) (keys : Keyed) → game_at text ≡ r → after_session (with_player player (ended_by r)) contents ≡ Ok keys → player ≤ GREATEST_PLAYER
game_seated player (Err (At line what)) text contents keys read e = absurd cc
game_seated player (Err Memory) text contents keys read e = absurd cc
game_seated player (Ok game) text contents keys read e = go (nat_lt player (players_of game)) refl e
  where
    go : (b : Bool) → nat_lt player (players_of game) ≡ b → after_session (if b then Ok game else Err Usage) contents ≡ Ok keys → player ≤ GREATEST_PLAYER
    go true within h =
        let less = ltb-true player (players_of game) within in
        let facts : IsSession game = (game_found text game read).session in
        let most = facts.players.1 in
        omega (arith, less, most)
    go false within h = absurd (let never : Err Usage ≡ Ok keys = h in cc)

pub root_holds : (k : Keying) → Holds (root_law k)
root_holds k = record {
  caused = λ contents input ends. caused_so k contents input (keyed_for k contents) refl;
  done = λ contents input answered ends good. inl (ap (λ (r : Result Keyed Status). (root_answer k.player r).status) good.1);
  meant = λ contents input keys read.
      let small = game_seated k.player (game_at (front_of (content contents 0))) (front_of (content contents 0)) (behind_first contents) keys refl read in
      subst (λ (r : Result Keyed Status). TellsRoot k.player keys (root_answer k.player r).body) (sym read) (record { read = root_told k.player keys.game keys.seed small; seals = seals_valid });
  unread = λ shelf contents h n. inl (none_at (k.session ∷ k.seed ∷ []) n);
  unasked = λ shelf. refl;
  unremembered = λ ended. tt;
  cut = λ ended. tt;
  played_cause = λ contents input before after s p. absurd p;
  played_done = λ contents input before after s p good written. absurd p;
}
