-- Meant: what is behind the text of an accusation.
use Rattle.std.proofs.Common.{◌≡◌, ℕ, List, ◌∷◌, ◌++◌, ap, sym, refl, ◌∙◌, append_assoc}
use Rattle.std.proofs.lemmas.Grind.{flat_map-append}
use Rattle.definitions.specs.declared.findings.Finding.{Finding}
use Rattle.definitions.specs.Lists.{EachIs}
use Rattle.definitions.specs.World.{Game}
use Rattle.definition_laws.specs.Members.{Has}
use Rattle.definition_laws.proofs.Members.{Has_split}
use Rattle.grid_world.specs.Sessions.{IsSession}
use Rattle.report_lines.specs.Lines.{end_line_text}
use Rattle.session_log.specs.Laws.{AreBytes}
use Rattle.sealed_text.proofs.Found.{sealed_read}
use Rattle.file_commands.specs.AuditLines.{finding_line}
use Rattle.accuser.specs.Accused.{sealed_of}
use Rattle.accuse_command.specs.Accuse.{accuse_text, accused_text, all_accused_text, found_by, text_if_few}
use Rattle.accuse_command.specs.Told.{StandsInText, TellsFinding}
use Rattle.accuse_command.proofs.Fitting.{finding_fits, finding_judged}

found_split : (game : Game) (roots files : List (List ℕ)) (front back : List Finding) (f : Finding) →
    all_accused_text game roots files (front ++ f ∷ back) ≡
    all_accused_text game roots files front ++ ((finding_line f ++ text_if_few (sealed_of game roots files f)) ++ all_accused_text game roots files back)
unfolding all_accused_text accused_text
found_split game roots files front back f = flat_map-append (accused_text game roots files) front (f ∷ back)

stands_in : (game : Game) (roots files : List (List ℕ)) (f : Finding) → Has (found_by game roots files) f → StandsInText (accuse_text game roots files) f (sealed_of game roots files f)
unfolding accuse_text
stands_in game roots files f m =
    let s = Has_split (found_by game roots files) f m in
    let a = all_accused_text game roots files s.0 in
    let x = finding_line f ++ text_if_few (sealed_of game roots files f) in
    let b = all_accused_text game roots files s.1 in
    record {
      front = a;
      back = b ++ end_line_text;
      parts = ap (λ fs. all_accused_text game roots files fs ++ end_line_text) s.2 ∙ ap (λ y. y ++ end_line_text) (found_split game roots files s.0 s.1 f) ∙ append_assoc a (x ++ b) end_line_text ∙ ap (λ y. a ++ y) (append_assoc x b end_line_text) ∙ sym (append_assoc a x (b ++ end_line_text));
    }

pub finding_told : (game : Game) (roots files : List (List ℕ)) (f : Finding) → IsSession game → EachIs AreBytes files → Has (found_by game roots files) f →
    TellsFinding game roots (accuse_text game roots files) f (sealed_of game roots files f)
finding_told game roots files f session are m = record {
  stands = stands_in game roots files f m;
  accuses = (refl, refl, refl);
  shows = finding_judged game roots files f m;
  read = λ few. sealed_read game (sealed_of game roots files f) (finding_fits game roots files f m session are few);
}
