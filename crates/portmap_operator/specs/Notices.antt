-- The notices that an operator reads while the daemon runs: profile.
use Rattle.std.specs.Fmt.{decimal}
use Rattle.std.specs.Prelude.{ℕ, ◌-◌, ◌==◌, List, ◌++◌, codes, if◌then◌else◌}
use Rattle.portmap_operator.specs.{Refused.in_use_line, Remote.remote_line}
use Rattle.portmap_operator.specs.declared.notice.Notice.{Notice, TheVariants.{CannotAccept, FewerPlaces, FiguresLost, InUse}}
use Rattle.portmap_operator.specs.declared.notice.Notice.TheVariants.{RecordingAgain, RecordingFailed, Remote, ShortOfMemory, Unread}

-- The path of a recording's file with this number.
abbrev pub file_path : List ℕ → ℕ → List ℕ
file_path path number = if number == 0 then path else path ++ codes "." ++ decimal number

abbrev pub notice_line : Notice → List ℕ
notice_line CannotAccept = codes "epmd: cannot accept connections\n"
notice_line (InUse refused) = in_use_line refused.name (refused.count - 1)
notice_line (Remote refused) = remote_line refused.first (refused.count - 1)
notice_line (ShortOfMemory count) = codes "epmd: memory is short, " ++ decimal count ++ codes " requests were refused\n"
notice_line (Unread count) = codes "epmd: " ++ decimal count ++ codes " connections that did not read their replies were reset\n"
notice_line (RecordingFailed path number reason) =
    codes "epmd: recording failed: " ++ file_path path.now number ++ codes ": " ++ reason.now ++ codes "\n"
notice_line (RecordingAgain path number) = codes "epmd: recording again: " ++ file_path path.now number ++ codes "\n"
notice_line (FiguresLost path reason) = codes "epmd: cannot write the counters: " ++ path.now ++ codes ": " ++ reason.now ++ codes "\n"
notice_line (FewerPlaces places limit) = codes "epmd: at most " ++ decimal places
    ++ codes " connections, since the limit of descriptors is " ++ decimal limit ++ codes "\n"
