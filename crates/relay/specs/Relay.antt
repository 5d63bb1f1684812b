-- Relay: the poster is handed its note and sends it to every other card, and any other card's first receipt does the same.
-- So what a card has relayed is what it was handed.
use Rattle.std.specs.Prelude.{ℕ}
use Rattle.parts.specs.Views.{BroadcastView}
use Rattle.parts.specs.Broadcasting.{broadcast_view}
use Rattle.tables.specs.Tables.{set_in}
use Rattle.spread.specs.Spread.{SpreadState, spread_work}
use Rattle.spread.specs.Seen.{spread_cards, spread_crashed, spread_suspects, spread_wire, spread_poster}

abbrev pub relay_handed : SpreadState → ℕ → ℕ
relay_handed x = set_in x.relayed

abbrev pub seen : SpreadState → BroadcastView
seen = broadcast_view spread_cards spread_crashed spread_suspects spread_wire spread_work spread_poster relay_handed
