-- SessionRead: what was read of a session's file, and what is due by it.
use Rattle.std.proofs.Common.{◌≡◌, List, [], ◌∷◌, ◌++◌, append-nil, ℕ, Option, None, Some, refl, ap, sym, ◌∙◌}
use Rattle.std.specs.Prelude.{Result, Ok, Err}
use Rattle.definitions.specs.World.{Game}
use Rattle.definitions.specs.declared.limits.TheConstants.{SESSION_FRONT}
use Rattle.grid_world.specs.declared.fault.SessionFault.{SessionFault}
use Rattle.grid_world.specs.declared.fault.SessionFault.TheVariants.{At, Memory}
use Rattle.grid_world.specs.Reading.{game_at, said_by, session_fault}
use Rattle.text_lines.specs.Lines as L
use Rattle.text_lines.specs.Reading.{◌>>=◌, fault_of}
use Rattle.station.specs.Pieces.{Piece}
use Rattle.station.specs.Shelves.{ShelfState}
use Rattle.station.specs.Since.{since}
use Rattle.line_io.specs.Files.{Calls, ReadsFiles}
use Rattle.line_io.specs.Fronts.{IsFrontOf}
use Rattle.run_frame.specs.Sessions.{OpensSession, ended_by, front_of}
use Rattle.run_frame.specs.declared.statuses.Status.{Status}

-- the bytes that are read of a file, by its front
pub front_read : (content : Option (List ℕ)) (text : List ℕ) → IsFrontOf SESSION_FRONT content text → front_of content ≡ text
unfolding front_of
front_read None text h = absurd h
front_read (Some bytes) text h = sym h

-- a session that is due was read
pub game_due : (r : Result Game SessionFault) (game : Game) → ended_by r ≡ Ok game → r ≡ Ok game
game_due (Ok g) game e = cc
game_due (Err Memory) game e = cc
game_due (Err (At line what)) game e = cc

-- a fault that is not of what is made last is of what came before
bound_fault : (A B : Type 0) (r : Result A SessionFault) (f : A → B) (e : SessionFault) → (r >>= (λ x. Ok (f x))) ≡ Err e → fault_of r ≡ Some e
bound_fault A B (Ok x) f e h = absurd (let same : Ok (f x) ≡ Err e = h in cc)
bound_fault A B (Err d) f e h = let same : d ≡ e = (let g : Err d ≡ Err e = h in cc) in ap Some same

-- a text of which no session is read has that fault
pub fault_said : (text : List ℕ) (e : SessionFault) → game_at text ≡ Err e → session_fault text ≡ Some e
unfolding game_at session_fault
fault_said text e h = bound_fault _ _ (said_by (L.ended_lines_of text)) _ e h

-- the calls of a command that reads a session's file alone
abbrev pub session_calls : ShelfState → ShelfState → Calls
session_calls h h' = since h.pieces h'.pieces ∷ []

pub session_read : (h h' : ShelfState) (name : List ℕ) (r : Result Game Status) → OpensSession h h' name r → ReadsFiles (name ∷ []) h h' (session_calls h h')
session_read h h' name r o = record {
  same = o.fetched.same;
  answered = o.fetched.grows ∙ ap (λ (x : List Piece). h.pieces ++ x) (sym (append-nil (since h.pieces h'.pieces)));
  readings = (o.fetched.reading, o.fetched.shown, refl);
}
