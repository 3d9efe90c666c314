mod Windows
mod Packets
mod Lists
