-- Which addresses a link may call. This project's own, over the blocks of addresses of RFC 6890 and RFC 4291.
use Rattle.std.specs.Prelude.{◌≡◌, ◌≢◌, ◌⊎◌, ℕ, [], ◌∷◌, List, Option, Some, IsTrue}
use Rattle.std.specs.Net.Addr.{HasPrefix, IsWithinAt, IsIpv4Mapped, ipv4_octets, ipv6_segments, low_octets}
use Rattle.std.specs.Net.Socket.{socket_ip, socket_port}
use Rattle.std.specs.declared.net.ip_addr.IpAddr.{IpAddr}
use Rattle.std.specs.declared.net.ip_addr.IpAddr.TheVariants.{V4, V6}
use Rattle.std.specs.declared.net.socket_addr.SocketAddr.{SocketAddr}
use Rattle.bounded_network.specs.declared.reach.Reach.{Reach}

-- the octets of an IPv4 address of this machine: 127.0.0.0/8 or 0.0.0.0
abbrev pub AreHere : List ℕ → Type 0
AreHere octets = HasPrefix octets (127 ∷ []) ⊎ (octets ≡ 0 ∷ 0 ∷ 0 ∷ 0 ∷ [])

-- the octets of an IPv4 address of this machine's link: 169.254.0.0/16
abbrev pub AreOnLink : List ℕ → Type 0
AreOnLink octets = HasPrefix octets (169 ∷ 254 ∷ [])

-- an address of this machine: ::1 or ::, or an IPv4 address of it, as it is or within an IPv6 address (::ffff:127.0.0.1)
abbrev pub IsHere : IpAddr → Type 0
IsHere (V4 a) = AreHere (ipv4_octets a)
IsHere (V6 a) = (ipv6_segments a ≡ 0 ∷ 0 ∷ 0 ∷ 0 ∷ 0 ∷ 0 ∷ 0 ∷ 1 ∷ [])
    ⊎ ((ipv6_segments a ≡ 0 ∷ 0 ∷ 0 ∷ 0 ∷ 0 ∷ 0 ∷ 0 ∷ 0 ∷ [])
    ⊎ (IsIpv4Mapped (ipv6_segments a) × AreHere (low_octets a)))

-- an address of this machine's link: one of fe80::/10, or an IPv4 address of it, as it is or within an IPv6 address
abbrev pub IsOnLink : IpAddr → Type 0
IsOnLink (V4 a) = AreOnLink (ipv4_octets a)
IsOnLink (V6 a) = IsWithinAt (ipv6_segments a) 0 0xfe80 0xfebf
    ⊎ (IsIpv4Mapped (ipv6_segments a) × AreOnLink (low_octets a))

-- an address of the network beyond this machine and its link
abbrev pub IsOutside : IpAddr → Type 0
IsOutside ip = ¬ (IsHere ip) × ¬ (IsOnLink ip)

-- two addresses of one kind: both of this machine, or both of its link
abbrev pub AreAlike : IpAddr → IpAddr → Type 0
AreAlike a b = (IsHere a × IsHere b) ⊎ (IsOnLink a × IsOnLink b)

-- addresses of this machine may be called
abbrev pub HasMachine : Reach → Type 0
HasMachine reach = IsTrue reach.machine

-- addresses of this machine's link may be called
abbrev pub HasLink : Reach → Type 0
HasLink reach = IsTrue reach.link

-- the port of this machine that isn't called in any case
abbrev pub left_out : Reach → Option ℕ
left_out reach = reach.own

-- the address may be called: one of this machine where those may be and its port isn't left out, one of its link where those
-- may be, and any other
abbrev pub Has : Reach → SocketAddr → Type 0
Has reach a = (IsHere (socket_ip a) → HasMachine reach × (left_out reach ≢ Some (socket_port a)))
    × (IsOnLink (socket_ip a) → HasLink reach)

-- the address is one of this machine, with the port that is left out
abbrev pub IsLeftOut : Reach → SocketAddr → Type 0
IsLeftOut reach a = IsHere (socket_ip a) × (left_out reach ≡ Some (socket_port a))

-- the address is one of this machine, with that port
abbrev pub IsHereAt : ℕ → SocketAddr → Type 0
IsHereAt port a = IsHere (socket_ip a) × (socket_port a ≡ port)
