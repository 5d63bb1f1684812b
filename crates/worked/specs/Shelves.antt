-- Schedules of the collection, one of each shelf, and their reports.
use Rattle.std.specs.Prelude.{◌≡◌, codes}
use Rattle.report.specs.Reports.{report_of}

-- relay_flood: an item from a suspected card does nothing.
abbrev pub RelayFlood : Type 0
RelayFlood =
    report_of (codes "kind wear\ncards 3\npile relay flood\nnotes 3\nevents 30\n7 120\n3 55\n3 54\nb 0 0\nc b 0\nc b 0\nc b 0\nc b 0\nc b 0\nc b 0\np 0\nb 1 1\nb 2 2\nc b 0\nc b 0\nc b 0\nc b 0\nc b 0\nc b 0\nc b 0\nc b 0\nc b 0\nc b 0\nc b 0\nc b 0\np 1\np 2\nx 0\ns 1 0\nc c 0\nl c 0\ns 2 0\nr 60000\n")
    ≡ codes "log 0 down\nlog 1 up 2 1 0\nlog 2 up 2 1 0\nsteps 31 rest\n"

-- relay_register: a crashed log need not begin the running one.
abbrev pub RelayRegister : Type 0
RelayRegister =
    report_of (codes "kind wear\ncards 2\npile relay register\nnotes 2\nevents 8\n7 120\n3 55\nb 0 0\np 0\nc c 0\nt 0\nx 0\nl b 0\ns 1 0\nr 9\n")
    ≡ codes "log 0 down 0\nlog 1 up\nsteps 4 rest\n"

-- allack_flood: a card sends before it takes in what was kept.
abbrev pub AllackFlood : Type 0
AllackFlood =
    report_of (codes "kind wear\ncards 3\npile allack flood\nnotes 3\nevents 32\n7 120\n3 55\n3 54\nb 0 0\nc b 0\nc b 0\nc b 0\nc b 0\nc b 0\nc b 0\np 0\nb 1 1\nc b 0\nc b 0\nc b 0\nc b 0\nc b 0\nc b 0\nc c 0\np 1\nb 2 2\nc b 0\nc b 0\nc b 0\nc b 0\nc b 0\nc b 0\np 2\nx 0\nl c 0\nc c 0\nx 1\ns 2 0\ns 2 1\nr 60000\n")
    ≡ codes "log 0 down\nlog 1 down\nlog 2 up 1 0 2\nsteps 27 rest\n"

-- allack_register: a suspicion hands over what only waited for that card.
abbrev pub AllackRegister : Type 0
AllackRegister =
    report_of (codes "kind wear\ncards 3\npile allack register\nnotes 3\nevents 11\n7 120\n3 55\n3 54\nb 0 0\nc b 0\nc b 1\nx 2\np 0\ns 0 2\np 0\np 1\ns 1 2\np 1\nr 60000\n")
    ≡ codes "no 4 9\nno 7 9\nlog 0 up 0\nlog 1 up 0\nlog 2 down\nsteps 8 rest\n"

-- board_flood: a kept item is dropped if its sender is suspected by then.
abbrev pub BoardFlood : Type 0
BoardFlood =
    report_of (codes "kind wear\ncards 3\npile board flood\nnotes 3\nevents 16\n7 120\n3 55\n3 54\nb 0 0\nc b 0\nc b 0\nc b 0\np 0\nc c 0\nx 0\ns 1 0\nb 1 1\nc b 0\nc b 0\np 1\nl c 0\ns 2 0\np 2\nr 60000\n")
    ≡ codes "log 0 down\nlog 1 up 1 0\nlog 2 up 1 0\nsteps 18 rest\n"

-- board_register: the register keeps the first that is carried.
abbrev pub BoardRegister : Type 0
BoardRegister =
    report_of (codes "kind wear\ncards 2\npile board register\nnotes 2\nevents 12\n7 120\n3 55\nb 0 0\nc b 0\nc b 0\np 0\nb 1 1\nc b 0\nc b 0\np 1\nc c 1\nt 0\nt 1\nr 60000\n")
    ≡ codes "no 9 10\nlog 0 up 1 0\nlog 1 up 1 0\nsteps 10 rest\n"

-- inturn_relay_flood: the turn is by posting and not by number.
abbrev pub InturnRelayFlood : Type 0
InturnRelayFlood =
    report_of (codes "kind wear\ncards 2\npile inturn relay flood\nnotes 3\nevents 7\n7 120\n3 55\n3 54\nb 0 2\nb 0 0\nc b 1\np 1\nc b 0\np 1\nr 60000\n")
    ≡ codes "no 3 9\nlog 0 up 2 0\nlog 1 up 2 0\nsteps 12 rest\n"

-- inturn_relay_register: a lost post blocks the later ones of its poster.
abbrev pub InturnRelayRegister : Type 0
InturnRelayRegister =
    report_of (codes "kind wear\ncards 3\npile inturn relay register\nnotes 4\nevents 9\n9 1\n2 4294967295\n2 0\n5 5\nb 0 0\nb 0 1\nb 1 2\nx 0\nl b 0\nl b 0\ns 1 0\ns 2 0\nr 60000\n")
    ≡ codes "log 0 down\nlog 1 up 2\nlog 2 up 2\nsteps 14 rest\n"

-- inturn_allack_flood: one item moves a card through several rounds.
abbrev pub InturnAllackFlood : Type 0
InturnAllackFlood =
    report_of (codes "kind wear\ncards 3\npile inturn allack flood\nnotes 2\nevents 19\n7 120\n3 55\nb 0 0\nc b 0\nc b 0\nc b 0\nc b 0\nc b 0\nc b 0\nx 2\ns 0 2\ns 1 2\np 0\np 1\nc c 0\nc c 1\nc c 0\nc c 1\nc c 0\nt 1\nr 60000\n")
    ≡ codes "log 0 up 0\nlog 1 up 0\nlog 2 down\nsteps 16 rest\n"

-- inturn_allack_register: labels rank byte by byte and a beginning first.
abbrev pub InturnAllackRegister : Type 0
InturnAllackRegister =
    report_of (codes "kind label\ncards 3\npile inturn allack register\nnotes 4\nevents 5\nz\na b\na\na  b\nb 2 0\nb 2 1\nb 1 2\nb 1 3\nr 60000\n")
    ≡ codes "log 0 up 2 3 1 0\nlog 1 up 2 3 1 0\nlog 2 up 2 3 1 0\nsteps 33 rest\n"

-- inturn_board_flood: a suspicion lets a card pass all rounds and decide.
abbrev pub InturnBoardFlood : Type 0
InturnBoardFlood =
    report_of (codes "kind wear\ncards 2\npile inturn board flood\nnotes 2\nevents 9\n7 120\n3 55\nb 0 0\nc b 0\nc b 0\np 0\nx 1\nt 0\ns 0 1\nt 0\nr 60000\n")
    ≡ codes "no 5 10\nlog 0 up 0\nlog 1 down\nsteps 4 rest\n"

-- inturn_board_register: calls are turned down in checking order.
abbrev pub InturnBoardRegister : Type 0
InturnBoardRegister =
    report_of (codes "kind wear\ncards 3\npile inturn board register\nnotes 2\nevents 39\n7 120\n3 55\nb 3 0\nb 65535 9\nx 3\ns 3 0\ns 0 3\np 3\nt 3\nx 2\nb 2 9\nx 2\ns 2 2\ns 2 0\np 2\nt 2\nb 0 2\nb 0 65535\nb 0 1\nb 1 1\nb 0 1\ns 0 1\ns 1 1\ns 0 2\ns 0 2\nc b 2\nl b 2\nc c 0\nl c 65535\nl b 0\nc b 0\nc b 0\ns 1 2\np 0\np 0\nt 0\nt 1\nl c 0\nr 60000\np 0\np 1\n")
    ≡ codes "no 0 1\nno 1 1\nno 2 1\nno 3 1\nno 4 1\nno 5 1\nno 6 1\nno 8 2\nno 9 2\nno 10 2\nno 11 2\nno 12 2\nno 13 2\nno 14 3\nno 15 3\nno 17 4\nno 18 4\nno 19 5\nno 20 5\nno 23 6\nno 24 6\nno 25 6\nno 26 6\nno 27 7\nno 32 8\nno 33 10\nno 34 10\nno 35 7\nno 37 9\nno 38 9\nlog 0 up 1\nlog 1 up 1\nlog 2 down\nsteps 8 rest\n"

-- unreadable: an erase count beyond 32 bits.
abbrev pub Unreadable : Type 0
Unreadable =
    report_of (codes "kind wear\ncards 2\npile board register\nnotes 1\nevents 1\n7 4294967296\nb 0 0\n")
    ≡ codes "bad 13 55 notes\n"

pub record OneOfEachShelf : Type 0 where
  pub relay_flood : RelayFlood
  pub relay_register : RelayRegister
  pub allack_flood : AllackFlood
  pub allack_register : AllackRegister
  pub board_flood : BoardFlood
  pub board_register : BoardRegister
  pub inturn_relay_flood : InturnRelayFlood
  pub inturn_relay_register : InturnRelayRegister
  pub inturn_allack_flood : InturnAllackFlood
  pub inturn_allack_register : InturnAllackRegister
  pub inturn_board_flood : InturnBoardFlood
  pub inturn_board_register : InturnBoardRegister
  pub unreadable : Unreadable
