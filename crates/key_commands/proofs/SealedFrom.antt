-- SealedFrom: what is sealed comes of a session that a text may say, and of an honest log.
use Rattle.std.proofs.Common.{◌≡◌, ℕ, Bool, true, false, List, Option, None, Some, refl, sym, ap}
use Rattle.std.proofs.Common.{subst, nat_lt}
use Rattle.std.specs.Prelude.{Result, Ok, Err, if◌then◌else◌}
use Rattle.std.specs.Option.{option_or}
use Rattle.definitions.specs.declared.logs.Entry.{Entry}
use Rattle.definitions.specs.Honest.{IsHonest}
use Rattle.definitions.specs.Lists.{EachIs}
use Rattle.definitions.specs.Logs as L
use Rattle.definitions.specs.World.{Game, players_of}
use Rattle.definition_laws.proofs.Members.{Has_slice_get, each_Has}
use Rattle.grid_world.specs.Reading.{game_at}
use Rattle.grid_world.specs.Sessions.{IsSession}
use Rattle.grid_world.specs.declared.fault.SessionFault.{SessionFault}
use Rattle.grid_world.specs.declared.fault.SessionFault.TheVariants.{At, Memory}
use Rattle.grid_world.proofs.Found.{game_found}
use Rattle.session_log.specs.declared.faults.LogFault.{LogFault}
use Rattle.line_io.specs.Files.{Contents, behind_first, content}
use Rattle.seal_blame.specs.Made.{AreMade}
use Rattle.seal_blame.proofs.Blamed.{place_below}
use Rattle.seal_blame.proofs.Honestly.{made_so}
use Rattle.old_log.specs.Begun.{log_front_of, old_beginning}
use Rattle.old_log.specs.Old.{log_fault, old_entries, old_fault, whole_fault}
use Rattle.old_log.proofs.BegunSo.{begun_honest}
use Rattle.run_frame.specs.Sessions.{ended_by, front_of, with_player}
use Rattle.run_frame.specs.declared.statuses.Status.{Status}
use Rattle.run_frame.specs.declared.statuses.Status.TheVariants.{Usage}
use Rattle.key_commands.specs.Opened.{Keyed, Sealed, after_seed, made_unless, sealed_for}
use Rattle.key_commands.specs.Opened.{session_then, with_made}
use Rattle.key_commands.specs.Seal.{HasValidSeal, TellsSeals}
use Rattle.key_commands.specs.Seeds.{seed_in}
use Rattle.key_commands.specs.Words.{Sealing}
use Rattle.key_commands.proofs.Filed.{sound_file}
use Rattle.key_commands.proofs.Roots.{seals_valid}

-- ---- what is sealed is what the player made by an honest log

-- the entries of that log, in a session that a text may say
record IsOfLog (player : ℕ) (s : Sealed) : Type 0 where
  session : IsSession s.keys.game
  entries : List Entry
  honest : IsHonest s.keys.game player entries
  made_is : s.made ≡ L.made entries

-- the files give this to be sealed
abbrev Gives : Result Sealed Status → Sealed → Type 0
Gives given s = given ≡ Ok s

same_sealed : (a b : Sealed) → Gives (Ok a) b → a ≡ b
same_sealed a b e = cc

second_none : (a b : Option LogFault) → option_or a b ≡ None → b ≡ None
second_none None b e = e
second_none (Some x) b e = cc

-- a whole log of the player is honest
whole_honest : (game : Game) (player : ℕ) (log : Option (List ℕ)) →
    whole_fault game player (log_front_of log) ≡ None →
    IsHonest game player (old_entries game (log_front_of log))
whole_honest game player log e =
    let bytes : List ℕ = log_front_of log in
    let none = second_none (log_fault game bytes) (old_fault game player bytes) e in
    (begun_honest game player (Some log) _ (ap (old_beginning game bytes) none)).honest

module _ (player : ℕ) (s : Sealed) where
  of_log : (keys : Keyed) (log : Option (List ℕ)) (fault : Option LogFault) → IsSession keys.game →
      whole_fault keys.game player (log_front_of log) ≡ fault →
      Gives (with_made keys (made_unless keys.game (log_front_of log) fault)) s → IsOfLog player s
  of_log keys log None session e h = subst (IsOfLog player) (same_sealed _ s h) (record {
    session = session;
    entries = old_entries keys.game (log_front_of log);
    honest = whole_honest keys.game player log e;
    made_is = refl;
  })
  of_log keys log (Some fault) session e h = cc

  of_seed : (game : Game) (seed : Result (List ℕ) Status) (contents : Contents) → IsSession game →
      Gives (after_seed game player seed contents) s → IsOfLog player s
  of_seed game (Ok seed) contents session h =
      let keys : Keyed = record { game = game; seed = seed } in
      let log : Option (List ℕ) = content contents 0 in
      of_log keys log (whole_fault game player (log_front_of log)) session refl h
  of_seed game (Err status) contents session h = cc

  of_session : (front : List ℕ) (read : Result Game SessionFault) (contents : Contents) →
      game_at front ≡ read →
      Gives (session_then (with_player player (ended_by read)) player contents) s → IsOfLog player s
  of_session front (Ok game) contents e h = go (nat_lt player (players_of game)) h
    where
      go : (b : Bool) → Gives (session_then (if b then Ok game else Err Usage) player contents) s →
          IsOfLog player s
      go true h =
          let session = (game_found front game e).session in
          of_seed game (seed_in (content contents 0)) (behind_first contents) session h
      go false h = cc
  of_session front (Err (At line what)) contents e h = cc
  of_session front (Err Memory) contents e h = cc

of_files : (s : Sealing) (contents : Contents) (sealed : Sealed) →
    Gives (sealed_for s contents) sealed → IsOfLog s.keys.player sealed
of_files s contents sealed h =
    let front : List ℕ = front_of (content contents 0) in
    of_session s.keys.player sealed front (game_at front) (behind_first contents) refl h

-- ---- so its frames are made in fair play, and each seal is valid

module _ (player : ℕ) (s : Sealed) where
  made_fairly : IsOfLog player s → AreMade s.keys.game player s.made
  made_fairly is =
      let game = s.keys.game in
      let fair = made_so game player is.entries is.session.ahead.0 is.honest in
      subst (AreMade game player) (sym is.made_is) fair

  each_valid : IsSession s.keys.game → AreMade s.keys.game player s.made →
      EachIs (HasValidSeal s.keys) s.made
  each_valid session fair = each_Has (HasValidSeal s.keys) s.made (λ f has.
      let at = Has_slice_get s.made f has in
      let played = (fair.placed at.0 f at.1).1 in
      let place = place_below s.keys.game f session.ahead.0 played in
      seals_valid s.keys.game s.keys.seed f session.turns.1 played place)

pub seals_told : (s : Sealing) (contents : Contents) (sealed : Sealed) →
    Gives (sealed_for s contents) sealed → TellsSeals s.keys.player sealed
seals_told s contents sealed h =
    let is = of_files s contents sealed h in
    let fair = made_fairly s.keys.player sealed is in
    let valid = each_valid s.keys.player sealed is.session fair in
    record { fair = fair; valid = valid; file = sound_file s.keys.player sealed fair valid }
