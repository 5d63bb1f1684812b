-- What is seen of notes that spread by relaying, but for what is handed over.
use Rattle.std.specs.Prelude.{ℕ, Bool, List, Option}
use Rattle.cards.specs.Cards.{crashed_in, suspects_in}
use Rattle.tables.specs.Tables.{poster_in}
use Rattle.wire.specs.Wires.{senders}
use Rattle.spread.specs.Spread.{SpreadState}

abbrev pub spread_cards : SpreadState → ℕ
spread_cards x = x.cards.count

abbrev pub spread_crashed : SpreadState → ℕ → Bool
spread_crashed x = crashed_in x.cards

abbrev pub spread_suspects : SpreadState → ℕ → ℕ → Bool
spread_suspects x = suspects_in x.cards

abbrev pub spread_wire : SpreadState → List ℕ
spread_wire x = senders x.wire

abbrev pub spread_poster : SpreadState → ℕ → Option ℕ
spread_poster x = poster_in x.posters
