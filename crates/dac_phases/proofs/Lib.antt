mod Counted
mod Ended
mod Parted
mod Seating
mod Shipped
