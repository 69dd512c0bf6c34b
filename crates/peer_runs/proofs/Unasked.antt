-- Unasked: words that are no command.
use Rattle.std.proofs.Common.{◌≡◌, inl, List, [], append-nil, refl, sym}
use Rattle.station.specs.Since.{grows_none}
use Rattle.line_io.proofs.Writing.{bytes_none}
use Rattle.run_frame.specs.Outside.{Outside}
use Rattle.run_frame.specs.Runs.{Works}
use Rattle.run_frame.specs.declared.statuses.Status.TheVariants.{Usage}
use Rattle.run_frame.proofs.Working.{Holds, works}
use Rattle.peer_runs.specs.Commands.{usage_law}

usage_holds : Holds usage_law
usage_holds = record {
  caused = λ contents input ends. tt;
  done = λ contents input answered ends good. absurd good;
  meant = λ contents input. tt;
  unread = λ shelf. refl;
  unasked = λ shelf. refl;
  unremembered = λ ended. tt;
  cut = λ ended. tt;
  played_cause = λ contents input before after s p. absurd p;
  played_done = λ contents input before after s p good files written. absurd p;
}

pub unasked : (outside : Outside) → Works usage_law outside outside Usage
unasked outside = works usage_law usage_holds outside outside Usage (record {
  calls = [];
  read = outside.shelf;
  files = record { reads = record { same = refl; answered = sym (append-nil outside.shelf.pieces); readings = refl }; due = refl };
  asked = refl;
  input = record { same = refl; grows = grows_none outside.input.seen };
  text = λ contents behind m. inl (record { station = refl; post = refl; chance = refl }, (sym (bytes_none outside.output), refl));
  memory = tt;
  faults = (record { source = refl; files = refl }, refl);
  untouched = record { over = λ contents behind m over. refl; no_memory = tt };
  over = tt;
})
