-- Limits: each limit in its digits, whatever the constant of its name says.
use Rattle.std.specs.Prelude.{◌≡◌}
use Rattle.definitions.specs.declared.limits.TheConstants.{WINDOW, FEWEST_PLAYERS, MOST_PLAYERS, MOST_PLAYERS_AT_FIRST, MOST_TURNS, MOST_TURNS_AT_FIRST, MOST_TURNS_OF_ALL, MOST_AHEAD, WIDEST_SIDE, WIDEST_SIDE_AT_FIRST, LAST_VERSION, MOST_SPEED, FARTHEST_REACH, WIDEST_BLAST, MOST_CHARGE, MOST_ENTRIES, MOST_AUDITED, LONGEST_LOG, LOG_FRONT, SESSION_FRONT, MOST_LINES, LONGEST_LINE, LONGEST_PIECE, GREATEST_PLAYER, MOST_NEEDS, MOST_EVIDENCE_FRAMES, EVIDENCE_FRONT}
use Rattle.socket_lines.specs.declared.limits.TheConstants.{MOST_BYTES, HELLO_BYTES, MOST_ACCEPTED, MOST_WANTS}
use Rattle.socket_station.specs.declared.ready_list.TheConstants.{MOST_READY}
use Rattle.run_frame.specs.declared.polls.TheConstants.{MOST_POLLS}
use Rattle.rosters.specs.declared.limits.TheConstants.{ROSTER_FRONT}
use Rattle.pilots.specs.declared.limits.TheConstants.{MOVES_FRONT}
use Rattle.frame_index.specs.declared.limits.TheConstants.{MOST_LOGS}
use Rattle.post_rules.specs.declared.limits.TheConstants.{MOST_DATAGRAMS, MOST_FRAMES}
use Rattle.machine_host.specs.declared.hosts.TheConstants.{MOST_EVENTS}
use Rattle.station_mio.specs.declared.pace.TheConstants.{PAUSE, PATIENCE, LINGER}
use Rattle.station_mio.specs.declared.rows.TheConstants.{MOST_SOCKETS}
use Rattle.station_mio.specs.declared.ending.TheConstants.{MOST_READS}
use Rattle.station_mio.specs.declared.sockets.TheConstants.{MOST_WAITS}

-- the protocol, its sessions and its texts
pub record ProtocolLimits : Type 0 where
  pub window : WINDOW ≡ 8
  pub fewest_players : FEWEST_PLAYERS ≡ 2
  pub most_players : MOST_PLAYERS ≡ 64
  pub most_players_at_first : MOST_PLAYERS_AT_FIRST ≡ 16
  pub most_turns : MOST_TURNS ≡ 8192
  pub most_turns_at_first : MOST_TURNS_AT_FIRST ≡ 4096
  pub most_turns_of_all : MOST_TURNS_OF_ALL ≡ 393_216
  pub most_ahead : MOST_AHEAD ≡ 8
  pub widest_side : WIDEST_SIDE ≡ 1024
  pub widest_side_at_first : WIDEST_SIDE_AT_FIRST ≡ 256
  pub last_version : LAST_VERSION ≡ 2
  pub most_speed : MOST_SPEED ≡ 8
  pub farthest_reach : FARTHEST_REACH ≡ 8
  pub widest_blast : WIDEST_BLAST ≡ 2
  pub most_charge : MOST_CHARGE ≡ 255
  pub most_entries : MOST_ENTRIES ≡ 794_624
  pub most_audited : MOST_AUDITED ≡ 16
  pub longest_log : LONGEST_LOG ≡ 67_108_864
  pub log_front : LOG_FRONT ≡ 67_108_865
  pub session_front : SESSION_FRONT ≡ 16_777_216
  pub most_lines : MOST_LINES ≡ 1_048_576
  pub longest_line : LONGEST_LINE ≡ 1024
  pub longest_piece : LONGEST_PIECE ≡ 512
  pub greatest_player : GREATEST_PLAYER ≡ 255
  pub most_needs : MOST_NEEDS ≡ 64
  pub most_evidence_frames : MOST_EVIDENCE_FRAMES ≡ 16_384
  pub evidence_front : EVIDENCE_FRONT ≡ 2_097_152

-- a loop over sockets, and what a poll lists
pub record LoopLimits : Type 0 where
  pub most_bytes : MOST_BYTES ≡ 16_777_216
  pub hello_bytes : HELLO_BYTES ≡ 56
  pub most_accepted : MOST_ACCEPTED ≡ 256
  pub most_wants : MOST_WANTS ≡ 64
  pub most_ready : MOST_READY ≡ 64

-- what the words and the texts of a command may say: polls, and bytes of rosters and moves
pub record WordLimits : Type 0 where
  pub most_polls : MOST_POLLS ≡ 10_000_000
  pub roster_front : ROSTER_FRONT ≡ 1_048_576
  pub moves_front : MOVES_FRONT ≡ 1_048_576

-- how many logs are told apart
pub record LogLimits : Type 0 where
  pub most_logs : MOST_LOGS ≡ 64

-- a loop over datagrams
pub record PostLimits : Type 0 where
  pub most_datagrams : MOST_DATAGRAMS ≡ 4096
  pub most_frames : MOST_FRAMES ≡ 4

-- the pauses of a station, in milliseconds
pub record PauseLimits : Type 0 where
  pub pause : PAUSE ≡ 100
  pub patience : PATIENCE ≡ 3_000
  pub linger : LINGER ≡ 1_000

-- how many sockets a station has, how many a wait reports, and how often the end reads one and waits
pub record SocketLimits : Type 0 where
  pub most_sockets : MOST_SOCKETS ≡ 512
  pub most_events : MOST_EVENTS ≡ 48
  pub most_reads : MOST_READS ≡ 1_000
  pub most_waits : MOST_WAITS ≡ 1_000

-- all of them
pub record LimitsAre : Type 0 where
  pub protocol : ProtocolLimits
  pub loop : LoopLimits
  pub word : WordLimits
  pub log : LogLimits
  pub post : PostLimits
  pub pause : PauseLimits
  pub socket : SocketLimits
