-- AuditMeant: the logs that are read of files are ones that their owners may have written, and so their audit shows two faces.
use Rattle.std.proofs.Common.{◌≡◌, ℕ, zero, suc, ◌<◌, List, [], ◌∷◌, Some, None, subst}
use Rattle.std.specs.Prelude.{slice_get}
use Rattle.definitions.specs.declared.world.Move.{Move}
use Rattle.definitions.specs.declared.logs.Entry.{Entry}
use Rattle.definitions.specs.declared.logs.Entry.TheVariants.{Chose, Made, Got}
use Rattle.definitions.specs.Entries.{AreWellFormed}
use Rattle.definitions.specs.Lists.{EachIs, item_or}
use Rattle.definitions.specs.World.{Game, players_of}
use Rattle.definitions.specs.Findings.{got_known}
use Rattle.grid_world.specs.Sessions.{IsSession}
use Rattle.line_io.specs.Files.{Contents, behind_first}
use Rattle.session_log.specs.Laws as L
use Rattle.session_log.proofs.ReadSo.{got_frames_fit, read_is_log, read_well_formed}
use Rattle.evidence.specs.Laws.{IsLogOf}
use Rattle.auditor.specs.Agreed.{AreOwned}
use Rattle.log_streams.specs.Streams.{entries_in}
use Rattle.log_files.specs.Several.{first_bytes, logs_in, owners_in}
use Rattle.file_commands.specs.AuditLaws.{AllFitText, GotFitsText, TellsTwoFaces}
use Rattle.file_commands.proofs.Told.{different_told}
use Rattle.file_commands.specs.Audits.{AreFiles}

-- each log is its owner's
pub logs_owned : (game : Game) (files : Contents) (many : ℕ) → AreOwned game (owners_in game files many) (logs_in game files many)
logs_owned game files zero = λ i o h at own. absurd (let never : None ≡ Some o = own in cc)
logs_owned game files (suc many) = λ i o h at own. go (logs_owned game (behind_first files) many) i o h at own
  where
    go : AreOwned game (owners_in game (behind_first files) many) (logs_in game (behind_first files) many) → (i o : ℕ) (h : List Entry) → slice_get (logs_in game files (suc many)) i ≡ Some h → item_or (owners_in game files (suc many)) i None ≡ Some o → AreWellFormed game o h
    go behind zero o h at own =
        let same : entries_in game (first_bytes files) ≡ h = (let s : Some (entries_in game (first_bytes files)) ≡ Some h = at in cc) in
        subst (AreWellFormed game o) same (read_well_formed game (first_bytes files) o own)
    go behind (suc i) o h at own = behind i o h at own

logs_are : (game : Game) (files : Contents) (many : ℕ) → EachIs (IsLogOf game) (logs_in game files many)
logs_are game files zero = tt
logs_are game files (suc many) = (read_is_log game (first_bytes files), logs_are game (behind_first files) many)

-- a frame that fits its fields fits a text
fits_text : (es : List Entry) → EachIs L.GotFrameFits es → EachIs GotFitsText es
fits_text [] each = tt
fits_text (e ∷ es) each = (one e each.0, fits_text es each.1)
  where
    one : (e : Entry) → L.GotFrameFits e → GotFitsText e
    one (Chose t m n) f = tt
    one (Made x) f = tt
    one (Got q x) f = f

all_fit : (game : Game) (files : Contents) (many : ℕ) → AreFiles files many → AllFitText (logs_in game files many)
all_fit game files zero b = tt
all_fit game files (suc many) b = (fits_text (entries_in game (first_bytes files)) (got_frames_fit game (first_bytes files) b.0), all_fit game (behind_first files) many b.1)

pub two_faces : (game : Game) (files : Contents) (many : ℕ) → IsSession game → AreFiles files many → (i j q t : ℕ) (g h : List Entry) (m k : Move) → q < players_of game →
    slice_get (logs_in game files many) i ≡ Some g → slice_get (logs_in game files many) j ≡ Some h → slice_get (got_known game q g).moves t ≡ Some m → slice_get (got_known game q h).moves t ≡ Some k →
    (m ≡ k → ⊥) → TellsTwoFaces game (owners_in game files many) (logs_in game files many) q t
two_faces game files many session bytes i j q t g h m k below gs hs ms ks differ =
    different_told game (owners_in game files many) (logs_in game files many) i j q t g h m k session (logs_are game files many) (all_fit game files many bytes) below gs hs ms ks differ
